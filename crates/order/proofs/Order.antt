-- The theorem on the order of the sessions, for any device that keeps a handful of laws. By induction on the run. Of an open session it is known that it is stale, or
-- that its steps so far lead to it from any core that agrees with this one in all that the session has looked at.
-- Assumes nothing.
use mathlib.Core.Path.{◌≡◌, refl}
use mathlib.Core.Logic.{◌⊎◌, inl, inr}
use mathlib.Core.Bool.{Bool, true, false}
use mathlib.Core.Option.{Option, none, some}
use mathlib.Core.List.{List, [], ◌∷◌, ◌++◌}
use Rattle.order.specs.Order.{Door, keypad, port, Act, Role, aside, at, Fate, goesOn, dropped, committed, opens, fate, Device}
use Rattle.order.specs.Order.{run, Past, steps, answers, trace, opened, continued, filed, placed, rearranged, Serialises}

-- How a device is built. Its core is everything but the sessions.
pub record Build (M : Device) : Type 1 where
  pub Core : Type 0
  pub Sess : Type 0
  -- a core with the sessions of the keypad and of the port
  pub world : Core → Sess → Sess → M.World
  -- what stands at a door with no session; a session as it begins
  pub blank : Sess
  pub begun : Sess
  -- a step aside: the core after it, and its answer
  pub turn : M.Step → Core → Core × M.Answer
  -- a call at a door with no session: its answer
  pub outside : M.Step → Core → M.Answer
  -- a call at a door with a session: the session after it, if it goes on, and the answer
  pub inside : M.Step → Core → Sess → Sess × M.Answer
  -- the core with what the session has staged put in force, by this commit
  pub force : M.Step → Core → Sess → Core
  -- the second session, that of the other door, once the first has been put in force
  pub overtake : Sess → Sess → Sess

module _ (M : Device) (B : Build M) where
  open B use {Core, Sess, world, blank, begun, inside, force, overtake}

  abbrev pub slot : Option Sess → Sess
  slot none = blank
  slot (some s) = s

  -- a core, the session at a door, if there is one, and the session at the other door, if there is one
  abbrev pub held : Door → Core → Option Sess → Option Sess → M.World
  held keypad c m t = world c (slot m) (slot t)
  held port c m t = world c (slot t) (slot m)

  abbrev pub start : Bool → Option Sess
  start true = some begun
  start false = none

  abbrev pub overtaken : Sess → Option Sess → Option Sess
  overtaken s none = none
  overtaken s (some t) = some (overtake s t)

  -- after a call at a door with the session s: the core, the session at the door, and the other door's
  abbrev pub core_by : Fate → M.Step → Core → Sess → Core
  core_by goesOn x c s = c
  core_by dropped x c s = c
  core_by committed x c s = force x c s

  abbrev pub mine_by : Fate → M.Step → Core → Sess → Option Sess
  mine_by goesOn x c s = some (inside x c s).0
  mine_by dropped x c s = none
  mine_by committed x c s = none

  abbrev pub theirs_by : Fate → Sess → Option Sess → Option Sess
  theirs_by goesOn s t = t
  theirs_by dropped s t = t
  theirs_by committed s t = overtaken s t

  -- the fate of the session s by the call x
  abbrev pub fate_of : Act → M.Step → Core → Sess → Fate
  fate_of y x c s = fate y (M.verdict (inside x c s).1)

-- a fact of the session, if there is one
abbrev pub Fits : {S : Type 0} → (S → Type 0) → Option S → Type 0
Fits P none = Unit {0}
Fits P (some s) = P s

-- What the device must satisfy.
pub record Laws (M : Device) (B : Build M) : Type 1 where
  -- which cores, and which open sessions, can come about
  pub Good : B.Core → Type 0
  pub Fit : B.Sess → Type 0
  -- the session can no longer be committed
  pub Stale : B.Sess → Type 0
  -- the two cores agree in all that the session has looked at
  pub Agree : B.Sess → B.Core → B.Core → Type 0
  pub closes : (c : B.Core) (s t : B.Sess) → M.closed (B.world c s t) ≡ B.world c B.blank B.blank
  -- each step does what the build says
  pub turns : (x : M.Step) → M.role x ≡ aside → (c : B.Core) (m t : Option B.Sess) → Good c → Fits Fit m → Fits Fit t
      → M.step x (held M B keypad c m t) ≡ (held M B keypad (B.turn x c).0 m t, (B.turn x c).1)
  pub calls_outside : (x : M.Step) (d : Door) (y : Act) → M.role x ≡ at d y → (c : B.Core) (t : Option B.Sess) → Good c → Fits Fit t
      → M.step x (held M B d c none t) ≡ (held M B d c (start M B (opens y (M.verdict (B.outside x c)))) t, B.outside x c)
  pub calls_inside : (x : M.Step) (d : Door) (y : Act) → M.role x ≡ at d y
      → (c : B.Core) (s : B.Sess) (t : Option B.Sess) → Good c → Fit s → Fits Fit t → M.step x (held M B d c (some s) t)
      ≡ (held M B d (core_by M B (fate_of M B y x c s) x c s) (mine_by M B (fate_of M B y x c s) x c s) (theirs_by M B (fate_of M B y x c s) s t), (B.inside x c s).1)
  -- every step leads from what can come about to what can come about
  pub good_turn : (x : M.Step) → M.role x ≡ aside → (c : B.Core) → Good c → Good (B.turn x c).0
  pub good_force : (x : M.Step) (d : Door) (y : Act) → M.role x ≡ at d y → (c : B.Core) (s : B.Sess) → Good c → Fit s
      → fate_of M B y x c s ≡ committed → Good (B.force x c s)
  pub fit_begun : Fit B.begun
  pub fit_inside : (x : M.Step) (d : Door) (y : Act) → M.role x ≡ at d y → (c : B.Core) (s : B.Sess) → Good c → Fit s
      → fate_of M B y x c s ≡ goesOn → Fit (B.inside x c s).0
  pub fit_overtake : (s t : B.Sess) → Fit s → Fit t → Fit (B.overtake s t)
  pub agree_refl : (s : B.Sess) (c : B.Core) → Agree s c c
  -- a step aside changes nothing that a session looks at
  pub agree_turn : (x : M.Step) → M.role x ≡ aside → (s : B.Sess) (c e : B.Core) → Good c → Fit s → Agree s (B.turn x c).0 e → Agree s c e
  -- a begin that opens a session does not depend on the core
  pub same_outside : (x : M.Step) (d : Door) (y : Act) → M.role x ≡ at d y → (c e : B.Core) → Good c → Good e
      → opens y (M.verdict (B.outside x c)) ≡ true → B.outside x e ≡ B.outside x c
  -- a call adds to what the session has looked at, and depends on nothing else
  pub agree_inside : (x : M.Step) (d : Door) (y : Act) → M.role x ≡ at d y → (s : B.Sess) (c e : B.Core) → Good c → Good e → Fit s
      → fate_of M B y x c s ≡ goesOn → Agree (B.inside x c s).0 c e → Agree s c e
  pub same_inside : (x : M.Step) (d : Door) (y : Act) → M.role x ≡ at d y → (s : B.Sess) (c e : B.Core) → Good c → Good e → Fit s
      → fate_of M B y x c s ≡ goesOn → Agree (B.inside x c s).0 c e → B.inside x e s ≡ B.inside x c s
  -- a stale session stays stale, and is not committed
  pub stale_inside : (x : M.Step) (d : Door) (y : Act) → M.role x ≡ at d y → (c : B.Core) (s : B.Sess) → Good c → Fit s
      → fate_of M B y x c s ≡ goesOn → Stale s → Stale (B.inside x c s).0
  pub stale_refused : (x : M.Step) (d : Door) (y : Act) → M.role x ≡ at d y → (c : B.Core) (s : B.Sess) → Good c → Fit s
      → fate_of M B y x c s ≡ committed → Stale s → ⊥
  -- a commit makes the other session stale, or changes nothing that it has looked at
  pub overtakes : (x : M.Step) (d : Door) (y : Act) → M.role x ≡ at d y → (c : B.Core) (s t : B.Sess) → Good c → Fit s → Fit t
      → fate_of M B y x c s ≡ committed
      → Stale (B.overtake s t) ⊎ ((B.overtake s t ≡ t) × ((e : B.Core) → Agree t (B.force x c s) e → Agree t c e))

module _ (M : Device) where
  open M use {World, Step, Answer, step}

  -- from w the steps of l have the answers that stand beside them, and lead to v
  data Replays : World → Past M → World → Type 0 where
    stays : {w : World} → Replays w [] w
    next : {x : Step} {a : Answer} {l : Past M} {w v u : World} → step x w ≡ (v, a) → Replays v l u → Replays w ((x, a) ∷ l) u

  replays_append : {l k : Past M} {w v u : World} → Replays w l v → Replays v k u → Replays w (l ++ k) u
  replays_append stays r = r
  replays_append (next e h) r = next e (replays_append h r)

  replays_run : {l : Past M} {w v : World} → Replays w l v → run M (steps M l) w ≡ (answers M l, v)
  replays_run stays = refl
  replays_run (next e h) = rw (e, replays_run h)

module _ (M : Device) (B : Build M) (L : Laws M B) where
  open M use {World, Step, Answer, step, role, verdict, closed}
  open B use {Core, Sess, world, blank, begun, turn, outside, inside, force, overtake}
  open L use {Good, Fit, Stale, Agree, closes, turns, calls_outside, calls_inside, good_turn, good_force, fit_begun, fit_inside, fit_overtake, agree_refl, agree_turn, same_outside, agree_inside, same_inside, stale_inside, stale_refused, overtakes}

  abbrev at_door : Door → Core → Option Sess → Option Sess → World
  at_door d c m t = held M B d c m t

  -- from any core that agrees for the session s, the steps p lead from no session to s
  abbrev Replayed : Door → Core → Sess → Past M → Type 0
  Replayed d c s p = (e : Core) → Good e → Agree s c e → Replays M (at_door d e none none) p (at_door d e (some s) none)

  -- what is known of the session at a door, if one is open, and of its steps so far
  abbrev Owes : Door → Core → Option Sess → Option (Past M) → Type 0
  Owes d c none none = Unit {0}
  Owes d c none (some p) = ⊥
  Owes d c (some s) none = ⊥
  Owes d c (some s) (some p) = Fit s × (Stale s ⊎ Replayed d c s p)

  fits : (d : Door) (c : Core) (m : Option Sess) (p : Option (Past M)) → Owes d c m p → Fits Fit m
  fits d c none p i = tt
  fits d c (some s) none i = absurd i
  fits d c (some s) (some p) i = i.0

  -- a step aside
  owes_turn : (x : Step) → role x ≡ aside → (d : Door) (c : Core) (m : Option Sess) (p : Option (Past M)) → Good c → Owes d c m p → Owes d (turn x c).0 m p
  owes_turn x o d c none none g i = tt
  owes_turn x o d c none (some p) g i = i
  owes_turn x o d c (some s) none g i = i
  owes_turn x o d c (some s) (some p) g (f, inl st) = (f, inl st)
  owes_turn x o d c (some s) (some p) g (f, inr r) = (f, inr (λ e h a. r e h (agree_turn x o s c e g f a)))

  -- for the door at which a call is made: what is listed at the call's place leads on, with no session at either door
  abbrev Own : Door → Step → Core → Core → Option Sess → Past M × Option (Past M) → Type 0
  Own d x c c' m' f = Replays M (at_door d c none none) f.0 (at_door d c' none none) × Owes d c' m' f.1 × Good c'

  own_outside : (x : Step) (d : Door) (y : Act) → role x ≡ at d y → (c : Core) → Good c → (b : Bool) → opens y (verdict (outside x c)) ≡ b
      → Own d x c c (start M B b) (opened M b (x, outside x c))
  own_outside x d y o c g true q = (
    stays,
    (fit_begun, inr (λ e h a. next (rw (same_outside x d y o c e g h q, q) at (calls_outside x d y o e none h tt)) stays)),
    g,
  )
  own_outside x d y o c g false q = (next (rw q at (calls_outside x d y o c none g tt)) stays, tt, g)

  own_inside : (x : Step) (d : Door) (y : Act) → role x ≡ at d y → (c : Core) (s : Sess) (p : Past M) → Good c → Owes d c (some s) (some p)
      → (k : Fate) → fate_of M B y x c s ≡ k
      → Own d x c (core_by M B k x c s) (mine_by M B k x c s) (continued M k (p ++ ((x, (inside x c s).1) ∷ [])))
  own_inside x d y o c s p g (f, inl st) goesOn q = (stays, (fit_inside x d y o c s g f q, inl (stale_inside x d y o c s g f q st)), g)
  own_inside x d y o c s p g (f, inr r) goesOn q = (
    stays,
    (
      fit_inside x d y o c s g f q,
      inr (λ e h a.
          replays_append M (r e h (agree_inside x d y o s c e g h f q a))
          (next (simp (same_inside x d y o s c e g h f q a, q) at (calls_inside x d y o e s none h f tt)) stays)),
    ),
    g,
  )
  own_inside x d y o c s p g i dropped q = (stays, tt, g)
  own_inside x d y o c s p g (f, inl st) committed q = absurd (stale_refused x d y o c s g f q st)
  own_inside x d y o c s p g (f, inr r) committed q =
      (replays_append M (r c g (agree_refl s c)) (next (rw q at (calls_inside x d y o c s none g f tt)) stays), tt, good_force x d y o c s g f q)

  -- for the door d, where the call is made at the other door
  overtaken_cases : (x : Step) (d : Door) (c : Core) (s t : Sess) (p : Past M) → Stale t ⊎ Replayed d c t p
      → Stale (overtake s t) ⊎ ((overtake s t ≡ t) × ((e : Core) → Agree t (force x c s) e → Agree t c e))
      → Stale (overtake s t) ⊎ Replayed d (force x c s) (overtake s t) p
  overtaken_cases x d c s t p i (inl st) = inl st
  overtaken_cases x d c s t p (inl st) (inr (q, h)) = inl (rw q st)
  overtaken_cases x d c s t p (inr r) (inr (q, h)) = inr (rw q (λ e g a. r e g (h e a)))

  owes_overtaken : (x : Step) (b : Door) (y : Act) → role x ≡ at b y → (d : Door) (c : Core) (s : Sess) (m : Option Sess) (p : Option (Past M))
      → Good c → Fit s → fate_of M B y x c s ≡ committed → Owes d c m p → Owes d (force x c s) (overtaken M B s m) p
  owes_overtaken x b y o d c s none none g f q i = tt
  owes_overtaken x b y o d c s none (some p) g f q i = i
  owes_overtaken x b y o d c s (some t) none g f q i = i
  owes_overtaken x b y o d c s (some t) (some p) g f q (ft, i) =
      (fit_overtake s t f ft, overtaken_cases x d c s t p i (overtakes x b y o c s t g f ft q))

  left : (x : Step) (b : Door) (y : Act) → role x ≡ at b y → (d : Door) (c : Core) (s : Sess) (t : Option Sess) (q : Option (Past M))
      → Good c → Fit s → Owes d c t q → (k : Fate) → fate_of M B y x c s ≡ k → Owes d (core_by M B k x c s) (theirs_by M B k s t) q
  left x b y o d c s t q g f j goesOn e = j
  left x b y o d c s t q g f j dropped e = j
  left x b y o d c s t q g f j committed e = owes_overtaken x b y o d c s t q g f e j

  -- A call at the door d, p being the steps so far of its session, and q those of the session at the other door, b: what the device does; what
  -- is listed at its place leads on, with no session at either door; and what is then known of the two sessions.
  record Called (x : Step) (y : Act) (d b : Door) (c : Core) (m t : Option Sess) (p q : Option (Past M)) : Type 0 where
    after : Core
    mine : Option Sess
    theirs : Option Sess
    answer : Answer
    does : step x (at_door d c m t) ≡ (at_door d after mine theirs, answer)
    lists : Replays M (at_door d c none none) (filed M y (x, answer) p).0 (at_door d after none none)
    owes_mine : Owes d after mine (filed M y (x, answer) p).1
    owes_theirs : Owes b after theirs q
    good : Good after

  called : (x : Step) (y : Act) (d b : Door) → role x ≡ at d y → (c : Core) (m t : Option Sess) (p q : Option (Past M))
      → Good c → Owes d c m p → Owes b c t q → Called x y d b c m t p q
  called x y d b o c none t none q g i j =
      let w = opens y (verdict (outside x c)) in
      let (r, k, h) = own_outside x d y o c g w refl in
      record {
        after = c;
        mine = start M B w;
        theirs = t;
        answer = outside x c;
        does = calls_outside x d y o c t g (fits b c t q j);
        lists = r;
        owes_mine = k;
        owes_theirs = j;
        good = h;
      }
  called x y d b o c none t (some p) q g i j = absurd i
  called x y d b o c (some s) t none q g i j = absurd i
  called x y d b o c (some s) t (some p) q g i j =
      let w = fate_of M B y x c s in
      let (r, k, h) = own_inside x d y o c s p g i w refl in
      record {
        after = core_by M B w x c s;
        mine = mine_by M B w x c s;
        theirs = theirs_by M B w s t;
        answer = (inside x c s).1;
        does = calls_inside x d y o c s t g i.0 (fits b c t q j);
        lists = r;
        owes_mine = k;
        owes_theirs = left x d y o b c s t q g i.0 j w refl;
        good = h;
      }

  -- what the run of xs did from w, rearranged, leads from the core c, with no session, to where the run led, its sessions taken away
  abbrev Leads : List Step → Core → Option Sess → Option Sess → Option (Past M) → Option (Past M) → Type 0
  Leads xs c m t p q =
      Good c → Owes keypad c m p → Owes port c t q
      → Replays M (at_door keypad c none none) (rearranged M (trace M xs (at_door keypad c m t)) p q) (closed (run M xs (at_door keypad c m t)).1)

  one_step : (x : Step) (xs : List Step) → ((c : Core) (m t : Option Sess) (p q : Option (Past M)) → Leads xs c m t p q)
      → (c : Core) (m t : Option Sess) (p q : Option (Past M)) → Good c → Owes keypad c m p → Owes port c t q
      → (r : Role) → role x ≡ r
      → Replays M (at_door keypad c none none)
      (placed M r (x, (step x (at_door keypad c m t)).1) p q (rearranged M (trace M xs (step x (at_door keypad c m t)).0)))
      (closed (run M xs (step x (at_door keypad c m t)).0).1)
  one_step x xs rest c m t p q g i j aside o =
      rw (turns x o c m t g (fits keypad c m p i) (fits port c t q j))
      (next (turns x o c none none g tt tt)
      (rest (turn x c).0 m t p q (good_turn x o c g) (owes_turn x o keypad c m p g i) (owes_turn x o port c t q g j)))
  one_step x xs rest c m t p q g i j (at keypad y) o =
      let k = called x y keypad port o c m t p q g i j in
      rw k.does (replays_append M k.lists (rest k.after k.mine k.theirs _ q k.good k.owes_mine k.owes_theirs))
  one_step x xs rest c m t p q g i j (at port y) o =
      let k = called x y port keypad o c t m q p g j i in
      rw k.does (replays_append M k.lists (rest k.after k.theirs k.mine p _ k.good k.owes_theirs k.owes_mine))

  replayed : (xs : List Step) (c : Core) (m t : Option Sess) (p q : Option (Past M)) → Leads xs c m t p q
  replayed [] c m t p q g i j = rw (closes c (slot M B m) (slot M B t)) stays
  replayed (x ∷ xs) c m t p q g i j = one_step x xs (replayed xs) c m t p q g i j (role x) refl

  -- THE THEOREM
  pub serialises : (xs : List Step) (c : Core) → Good c → Serialises M xs (world c blank blank)
  serialises xs c g = replays_run M (replayed xs c none none none none g tt tt)
