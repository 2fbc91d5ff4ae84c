-- What is served is a run: to serve the lines of a block, or of blocks one after another, is to run their commands. By induction on the number of lines.
-- Assumes nothing.
use Prim.Native.Nat.{ℕ, zero, suc, ◌+◌, ◌-◌, ◌≤◌, min}
use native.Mathlib.Omega.{arith}
use mathlib.Core.Path.{◌≡◌, refl, sym, ap, ◌∙◌}
use mathlib.Core.List.{List, [], ◌∷◌, ◌++◌, append_assoc}
use lib.ListN.{length, length-append, length-take, take, drop, take-append-drop, set, replicate}
use lib.Seq.{take-append_seam}
use Rattle.commands.specs.declared.Entry.{Entry}
use Rattle.commands.specs.declared.Echo.{Echo}
use Rattle.commands.specs.Answers.{World}
use Rattle.desk.specs.declared.Desk.{Desk}
use Rattle.desk.specs.declared.Served.{Served}
use Rattle.desk.specs.Desk.{block, no_response, world_in, desk_of, entered, entry_at, world_after, echoes, served}
use Rattle.served.specs.Served.{end_of, last_run, said_to, ran, Block, lines_in, lines_of, served_all}
use Rattle.served.proofs.Sitting.{sitting, sitting_length, sitting_join, sitting_runs}

-- ---- the world

world_shift : (x : Entry) (inputs : List Entry) (w : World) (k : ℕ) → world_after w (x ∷ inputs) (suc k) ≡ world_after (entered x w).0 inputs k
unfolding world_after
world_shift x inputs w zero = refl
world_shift x inputs w (suc k) = ap (λ (v : World). (entered (entry_at inputs k) v).0) (world_shift x inputs w k)

world_is : (es : List Entry) (rest : List Entry) (w : World) → world_after w (es ++ rest) (length es) ≡ (sitting es w).1
unfolding world_after sitting
world_is [] rest w = refl
world_is (e ∷ es) rest w = world_shift e (es ++ rest) w (length es) ∙ world_is es rest (entered e w).0

-- ---- what is said

-- to line k
abbrev said_at : World → List Entry → ℕ → Echo
said_at w inputs k = (entered (entry_at inputs k) (world_after w inputs k)).1

-- to the first k
abbrev saids : World → List Entry → ℕ → List Echo
saids w inputs zero = []
saids w inputs (suc k) = saids w inputs k ++ (said_at w inputs k ∷ [])

saids_length : (w : World) (inputs : List Entry) (k : ℕ) → length (saids w inputs k) ≡ k
saids_length w inputs zero = refl
saids_length w inputs (suc k) = length-append (saids w inputs k) (said_at w inputs k ∷ []) ∙ omega (arith, saids_length w inputs k)

set_at : {A : Type 0} (l : List A) (y z : A) (r : List A) → set (l ++ (y ∷ r)) (length l) z ≡ l ++ (z ∷ r)
set_at [] y z r = refl
set_at (x ∷ l) y z r = ap (λ t. x ∷ t) (set_at l y z r)

echoes_are : (w : World) (inputs : List Entry) (k m : ℕ) → k + m ≡ block → echoes w inputs k ≡ saids w inputs k ++ replicate m no_response
unfolding echoes
echoes_are w inputs zero m e = let p : block ≡ m = omega (arith, e) in ap (λ (j : ℕ). replicate j no_response) p
echoes_are w inputs (suc k) m e =
    let y : Echo = said_at w inputs k in
    let old : List Echo = saids w inputs k in
    let r : List Echo = replicate m no_response in
    ap (λ (l : List Echo). set l k y) (echoes_are w inputs k (suc m) (omega (arith, e)))
    ∙ ap (λ (j : ℕ). set (old ++ (no_response ∷ r)) j y) (sym (saids_length w inputs k))
    ∙ set_at old no_response y r
    ∙ sym (append_assoc old (y ∷ []) r)

saids_shift : (x : Entry) (inputs : List Entry) (w : World) (k : ℕ) → saids w (x ∷ inputs) (suc k) ≡ said_at w (x ∷ inputs) 0 ∷ saids (entered x w).0 inputs k
saids_shift x inputs w zero = refl
saids_shift x inputs w (suc k) =
    ap (λ (l : List Echo). l ++ (said_at w (x ∷ inputs) (suc k) ∷ [])) (saids_shift x inputs w k)
    ∙ ap (λ (v : World). said_at w (x ∷ inputs) 0 ∷ (saids (entered x w).0 inputs k ++ ((entered (entry_at inputs k) v).1 ∷ []))) (world_shift x inputs w k)

saids_are : (es : List Entry) (rest : List Entry) (w : World) → saids w (es ++ rest) (length es) ≡ (sitting es w).0
unfolding world_after sitting
saids_are [] rest w = refl
saids_are (e ∷ es) rest w =
    saids_shift e (es ++ rest) w (length es) ∙ ap (λ (l : List Echo). (entered e w).1 ∷ l) (saids_are es rest (entered e w).0)

-- ---- one block

-- what is to be handed back, line by line
abbrev sat : Desk → List Entry → Served
sat d es = record {
  desk = desk_of (sitting es (world_in d)).1;
  responses = (sitting es (world_in d)).0 ++ replicate (block - length es) no_response;
}

sat_runs : (d : Desk) (es : List Entry) → sat d es ≡ ran d es
unfolding ran
sat_runs d es = rw (sitting_runs es (world_in d))

served_sat : (d : Desk) (es : List Entry) (rest : List Entry) → length es ≤ block → served d (es ++ rest) (length es) ≡ sat d es
unfolding served
served_sat d es rest l =
    let n : min (length es) block ≡ length es = omega (arith, l) in
    let e = echoes_are (world_in d) (es ++ rest) (length es) (block - length es) (omega (arith, l)) in
    rw (n, e, world_is es rest (world_in d), saids_are es rest (world_in d))

-- WHAT IS SERVED IS A RUN: any lines at the head of a block, whatever stands after them
pub served_is_run : (d : Desk) (es : List Entry) (rest : List Entry) → length es ≤ block → served d (es ++ rest) (length es) ≡ ran d es
served_is_run d es rest l = served_sat d es rest l ∙ sat_runs d es

-- ---- any block

-- an array of `block` inputs, any number of them to be served
block_lines : (b : Block) → lines_in b ++ drop b.count b.inputs ≡ b.inputs
unfolding lines_in
block_lines b = take-append-drop b.count b.inputs

block_length : (b : Block) → length (lines_in b) ≡ min b.count block
unfolding lines_in
block_length b = length-take b.count b.inputs ∙ ap (min b.count) b.full

count_cut : (d : Desk) (inputs : List Entry) (count : ℕ) → served d inputs count ≡ served d inputs (min count block)
unfolding served
count_cut d inputs count = let e : min (min count block) block ≡ min count block = omega arith in rw e

block_sat : (d : Desk) (b : Block) → served d b.inputs b.count ≡ sat d (lines_in b)
block_sat d b =
    count_cut d b.inputs b.count
    ∙ ap (served d b.inputs) (sym (block_length b))
    ∙ ap (λ (l : List Entry). served d l (length (lines_in b))) (sym (block_lines b))
    ∙ served_sat d (lines_in b) (drop b.count b.inputs) (omega (arith, block_length b))

-- EVERY BLOCK IS RUNS: whatever `desk::serve` is given
pub every_block : (d : Desk) (b : Block) → served d b.inputs b.count ≡ ran d (lines_in b)
every_block d b = block_sat d b ∙ sat_runs d (lines_in b)

-- ---- blocks one after another

-- of what comes back for a block, the places of its lines
sat_out : (d : Desk) (es : List Entry) → take (length es) (sat d es).responses ≡ (sitting es (world_in d)).0
sat_out d es =
    let l : List Echo = (sitting es (world_in d)).0 in
    let n : length es ≡ length l = sym (sitting_length es (world_in d)) in
    ap (λ (k : ℕ). take k (l ++ replicate (block - length es) no_response)) n ∙ take-append_seam l (replicate (block - length es) no_response)

all_sat : (bs : List Block) (d : Desk) → served_all bs d ≡ ((sitting (lines_of bs) (world_in d)).0, desk_of (sitting (lines_of bs) (world_in d)).1)
unfolding served_all lines_of sitting
all_sat [] d = refl
all_sat (b ∷ bs) d =
    let es : List Entry = lines_in b in
    let w : World = world_in d in
    let v : World = (sitting es w).1 in
    rw (block_sat d b, sat_out d es, all_sat bs (desk_of v), sitting_join es (lines_of bs) w)

-- BLOCKS ONE AFTER ANOTHER: however lines fall into blocks, what is put out to them and the desk at the end are those of the runs among all of them
pub block_by_block : (bs : List Block) (d : Desk)
    → served_all bs d ≡ (said_to (lines_of bs) (world_in d), desk_of (end_of (last_run (lines_of bs) (world_in d))))
block_by_block bs d = all_sat bs d ∙ rw (sitting_runs (lines_of bs) (world_in d))
