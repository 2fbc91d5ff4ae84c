-- The history of a run: its steps with the answers that they had, newest first, and what it says of the time. Document 01, "Books": "The time is
-- that of the last accepted cycle (the start time before the first ..)".
-- Assumes nothing.
use Rattle.std.specs.Prelude.{ℕ, Bool, cond, List, [], ◌∷◌, reverse, leb, eqb}
use Rattle.order.specs.Order.{trace}
use Rattle.calendar.specs.Calendar.{end_of_time}
use Rattle.runs.specs.Run.{Step, on_cycle, World, Reply, number_of, corrector}

abbrev pub History : Type 0
History = List (Step × Reply)

-- what a run from w did
abbrev pub history : List Step → World → History
history xs w = reverse (trace corrector xs w)

-- a step was accepted
abbrev pub done : Step × Reply → Bool
done x = eqb (number_of x.1) 0

-- ---- the time

-- an accepted step, t being the time before it: a cycle brings its own
abbrev pub time_by : Step → ℕ → ℕ
time_by x t = on_cycle (λ r. r.time) t x

-- the time of the last accepted cycle, and t where there was none
abbrev pub last_time : ℕ → History → ℕ
last_time t [] = t
last_time t (x ∷ past) = cond (done x) (time_by x.0 (last_time t past)) (last_time t past)

-- a refused start hands back the state that start time 0 would give
abbrev pub start_time : ℕ → ℕ
start_time time = cond (leb end_of_time time) 0 time

-- the time of a device with which a run begins: until a cycle is accepted it is the last accepted time
abbrev pub started_at : World → ℕ
started_at w = w.state.core.measured.time
