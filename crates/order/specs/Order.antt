-- The order of the sessions: what a run did, rearranged session by session. Document 01, "Doors, sessions, locks", its first paragraph.
-- Assumes nothing.
use Rattle.std.specs.Prelude.{◌≡◌, Bool, true, false, List, [], ◌∷◌, ◌++◌, map}
use Rattle.std.proofs.Math.Option.{Option, none, some}

pub data Door : Type 0 where
  keypad port : Door

pub data Act : Type 0 where
  begin read write commit abandon : Act

-- What a step is to the sessions: a call at one of the doors, or a step aside, which belongs to no session.
pub data Role : Type 0 where
  aside : Role
  at : Door → Act → Role

-- What an answer says of its step: done; refused, and the session has ended; refused, and no more.
pub data Verdict : Type 0 where
  done ended refused : Verdict

-- a begin that is done opens a session
abbrev pub opens : Act → Verdict → Bool
opens begin done = true
opens begin ended = false
opens begin refused = false
opens read v = false
opens write v = false
opens commit v = false
opens abandon v = false

-- what becomes of an open session by a call at its door
pub data Fate : Type 0 where
  goesOn dropped committed : Fate

-- A commit that is done puts the session in force. One that is refused by 10, 11 or 12 ends it. Refused otherwise, it is one more step of the session, which stays
-- open. An abandon that is done ends the session.
abbrev pub fate : Act → Verdict → Fate
fate begin v = goesOn
fate read v = goesOn
fate write v = goesOn
fate commit done = committed
fate commit ended = dropped
fate commit refused = goesOn
fate abandon done = dropped
fate abandon ended = goesOn
fate abandon refused = goesOn

-- A device, as far as the order of its sessions goes.
pub record Device : Type 1 where
  pub World : Type 0
  pub Step : Type 0
  pub Answer : Type 0
  pub step : Step → World → World × Answer
  pub role : Step → Role
  pub verdict : Answer → Verdict
  -- the world with its unfinished sessions taken away
  pub closed : World → World

module _ (M : Device) where
  open M use {World, Step, Answer, step, role, verdict, closed}

  -- the answers, and the world at the end
  abbrev pub run : List Step → World → List Answer × World
  run [] w = ([], w)
  run (x ∷ xs) w = ((step x w).1 ∷ (run xs (step x w).0).0, (run xs (step x w).0).1)

  -- steps with the answers that they had
  abbrev pub Past : Type 0
  Past = List (Step × Answer)

  abbrev pub steps : Past → List Step
  steps l = map (λ (x : Step × Answer). x.0) l

  abbrev pub answers : Past → List Answer
  answers l = map (λ (x : Step × Answer). x.1) l

  -- what a run from w did
  abbrev pub trace : List Step → World → Past
  trace [] w = []
  trace (x ∷ xs) w = (x, (step x w).1) ∷ trace xs (step x w).0

  -- At a door with no session: a begin that opens one is its first step, and anything else stays where it is.
  abbrev pub opened : Bool → Step × Answer → Past × Option Past
  opened true x = ([], some (x ∷ []))
  opened false x = (x ∷ [], none)

  -- At a door with a session, p being its steps, this one included: it goes on; it is dropped; or it is committed, and all its steps stand here.
  abbrev pub continued : Fate → Past → Past × Option Past
  continued goesOn p = ([], some p)
  continued dropped p = ([], none)
  continued committed p = (p, none)

  -- Where a call at a door goes: what is listed at its place, and the steps so far of the session that is then open at the door, if one is.
  abbrev pub filed : Act → Step × Answer → Option Past → Past × Option Past
  filed y x none = opened (opens y (verdict x.1)) x
  filed y x (some p) = continued (fate y (verdict x.1)) (p ++ (x ∷ []))

  -- one step, and the rest; p and q: the steps so far of the sessions that are open at the keypad and at the port
  abbrev pub placed : Role → Step × Answer → Option Past → Option Past → (Option Past → Option Past → Past) → Past
  placed aside x p q rest = x ∷ rest p q
  placed (at keypad y) x p q rest = (filed y x p).0 ++ rest (filed y x p).1 q
  placed (at port y) x p q rest = (filed y x q).0 ++ rest p (filed y x q).1

  -- A run's steps and answers, rearranged: each session that was committed stands together at the place of its commit; one that was abandoned,
  -- ended by a refused commit or never finished is left out; every other step stays where it was.
  abbrev pub rearranged : List (Step × Answer) → Option Past → Option Past → Past
  rearranged [] p q = []
  rearranged (x ∷ l) p q = placed (role x.0) x p q (rearranged l)

  -- the run of xs from w, where no session is open, rearranged
  abbrev pub serial : List Step → World → Past
  serial xs w = rearranged (trace xs w) none none

  -- THE STATEMENT. The rearranged steps, run from the same world, have the answers that they had, and lead to the world that the run led to,
  -- its unfinished sessions apart.
  abbrev pub Serialises : List Step → World → Type 0
  Serialises xs w = run (steps (serial xs w)) w ≡ (answers (serial xs w), closed (run xs w).1)
