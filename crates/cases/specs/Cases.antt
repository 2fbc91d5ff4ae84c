-- "Twelve cases by hand" of document 01, and those of the requests of document 02, as the rows of one table. A row says where it comes from and
-- asks one question, with the answer that was worked out by hand. A new kind of row is a constructor of `Case` and a clause of `holds`.
-- Assumes nothing.
use Rattle.std.specs.Prelude.{Bool, true, false, not, ◌&&◌, List, [], ◌∷◌, ◌++◌, map, ℕ, ◌+◌, eqb, ℤ, pos, negsuc, neg_ℤ, Option, Some, None, Result, Ok, Err, Float, take, drop, replicate, set}
use Prim.Native.String.{String}
use Rattle.std.specs.Float.{nan, inf, fin, binary64}
use Rattle.std.specs.Float.Ieee.{of_bits}
use Rattle.order.specs.Order.{run}
use Rattle.spelling.specs.Spelling.{bytes}
use Rattle.message.specs.declared.Values.{Values}
use Rattle.message.specs.Message.{check}
use Rattle.reader.specs.declared.Unread.{Unread}
use Rattle.reader.specs.Reader.{parsed, parsed_number}
use Rattle.units.specs.Units.{litres_of, base_of}
use Rattle.settings.specs.declared.Setting.{Setting}
use Rattle.settings.specs.Settings.{factory_settings, cp, p_max, first_choice, first_weight}
use Rattle.settings.specs.declared.Value.TheVariants.{Whole, Coefficient}
use Rattle.outputs.specs.declared.Output.{Output}
use Rattle.outputs.specs.declared.Shown.{Shown}
use Rattle.outputs.specs.Outputs.{account_of, fresh_output}
use Rattle.outputs.specs.Four.{rule_at, all_shown}
use Rattle.factor.specs.Factor.{factor_of}
use Rattle.readings.specs.Kelvin.{kelvin_of}
use Rattle.temperature.specs.declared.Coefficients.{Coefficients}
use Rattle.temperature.specs.Equation.{equation_of}
use Rattle.temperature.specs.Nearest.{nearest_of}
use Rattle.ring.specs.Ring.{archive_lines, log_lines, audit_lines, book_after}
use Rattle.ring.specs.Store.{held_lines}
use Rattle.books.specs.declared.ArchiveLine.{ArchiveLine}
use Rattle.books.specs.declared.LogLine.{LogLine}
use Rattle.books.specs.Books.{no_archive, no_log, no_audit}
use Rattle.state.specs.declared.Counters.{Counters}
use Rattle.state.specs.declared.Alarms.{Alarms}
use Rattle.state.specs.declared.Core.{Core}
use Rattle.state.specs.declared.State.{State}
use Rattle.state.specs.State.{nothing_counted, fresh, with_core}
use Rattle.cycle.specs.Cycle.{coefficients_in}
use Rattle.panel.specs.Panel.{reported, readout_leaves}
use Rattle.commands.specs.declared.Question.TheVariants as question
use Rattle.commands.specs.declared.Given.{Given}
use Rattle.commands.specs.declared.Given.TheVariants as given
use Rattle.commands.specs.declared.Last.{Last}
use Rattle.runs.specs.Run.{Step, Cycle, Turn, Open, Shut, Clear, Tick, Ask, Call, Commit, Begin, Read, Write, Abandon, World, Reply, number_of, corrector}
use Rattle.runs.specs.InForce.{setting_of}
use Rattle.runs.specs.Outputs.{emitted_by}
use Rattle.runs.specs.Readouts.{readouts_by}

-- ---- what a row can ask

pub data Case : Type 0 where
  -- the factor of p, Tb, pb, T in hundredths of a kelvin and K; the last number is the answer
  factor_case : ℕ → ℕ → ℕ → ℕ → ℕ → ℕ → Case
  -- T.Mes of a result x of the temperature equation, and the answer
  nearest_case : Float → Option ℤ → Case
  -- T.Mes by the three coefficients and a raw temperature, and the answer
  measured_case : Coefficients → ℕ → Option ℤ → Case
  -- a device with blank stores, the steps of its run, and the numbers of the answers in turn
  run_case : State → List Step → List ℕ → Case
  -- the same, and the six counters that a report shows after the last step
  counters_case : State → List Step → List ℕ → Counters → Case
  -- or the alarms present: p, T, K
  alarms_case : State → List Step → List ℕ → Bool → Bool → Bool → Case
  -- or the months of the archive lines held, newest first
  months_case : State → List Step → List ℕ → List ℕ → Case
  -- or these lines in full: of each the month, Vm, VmD, Vb, VbD
  archive_case : State → List Step → List ℕ → List ℕ → Case
  -- or the codes of the logbook lines held, newest first
  codes_case : State → List Step → List ℕ → List ℕ → Case
  -- or the outputs as they are shown: of each the account in hundred-thousandths of a litre, what waits, what was lost
  outputs_case : State → List Step → List ℕ → List ℕ → Case
  -- or all that the ticks of the run emitted, four numbers a tick
  emitted_case : State → List Step → List ℕ → List ℕ → Case
  -- or the values that the readouts of the run gave, six a readout: Vb, VbD, VbT, Vm, VmD, VmT in litres
  readout_case : State → List Step → List ℕ → List ℕ → Case
  -- or what a readout after the last step makes of a lent buffer: the buffer before, and after
  buffer_case : State → List Step → List ℕ → List ℕ → List ℕ → Case
  -- a device and its logbook, the steps of its run, the numbers of the answers, and what the questions for a code gave: NUMBER TIME CODE LOOKED of each line found, or
  -- LOOKED alone
  last_case : State → List LogLine → List Step → List ℕ → List ℕ → Case
  -- the check character of six values in litres, and the answer
  check_case : Values → ℕ → Case
  -- bytes that the reader is given, and the six values in litres that it answers
  accepted_case : List ℕ → Values → Case
  -- or the number that it refuses them with
  refused_case : List ℕ → ℕ → Case

-- H2 is `H 2` (H8 has the times that document 02, Two, gave it); a case of document 02's One is `Request 1`
pub data Source : Type 0 where
  H Request : ℕ → Source

pub record Row : Type 0 where
  pub source : Source
  pub asked : Case

abbrev pub row : Source → Case → Row
row source asked = record { source = source; asked = asked }

-- ---- when two answers are the same

unfoldable pub same_whole : ℤ → ℤ → Bool
same_whole (pos a) (pos b) = eqb a b
same_whole (pos a) (negsuc b) = false
same_whole (negsuc a) (pos b) = false
same_whole (negsuc a) (negsuc b) = eqb a b

unfoldable pub same_measured : Option ℤ → Option ℤ → Bool
same_measured None None = true
same_measured None (Some b) = false
same_measured (Some a) None = false
same_measured (Some a) (Some b) = same_whole a b

unfoldable pub same_numbers : List ℕ → List ℕ → Bool
same_numbers [] [] = true
same_numbers [] (y ∷ ys) = false
same_numbers (x ∷ xs) [] = false
same_numbers (x ∷ xs) (y ∷ ys) = eqb x y && same_numbers xs ys

unfoldable pub same_flag : Bool → Bool → Bool
same_flag true b = b
same_flag false b = not b

unfoldable pub same_alarms : Alarms → Bool → Bool → Bool → Bool
same_alarms a p t k = same_flag a.p p && same_flag a.t t && same_flag a.k k

unfoldable pub six_of : Counters → List ℕ
six_of c = c.vm.0 ∷ c.vmd.0 ∷ c.vmt.0 ∷ c.vb.0 ∷ c.vbd.0 ∷ c.vbt.0 ∷ []

unfoldable pub same_counters : Counters → Counters → Bool
same_counters c d = same_numbers (six_of c) (six_of d)

-- ---- when a row holds

-- the stores before any line was written
unfoldable pub blank : State → World
blank s = record { state = s; archive = replicate archive_lines no_archive; log = replicate log_lines no_log; audit = replicate audit_lines no_audit }

-- the same with this logbook
unfoldable pub with_logbook : State → List LogLine → World
with_logbook s log = record { state = s; archive = replicate archive_lines no_archive; log = log; audit = replicate audit_lines no_audit }

-- the archive lines held, newest first
unfoldable pub archive_held : World → List ArchiveLine
archive_held w = held_lines archive_lines no_archive w.state.core.stores.archive w.archive

unfoldable pub months_held : World → List ℕ
months_held w = map (λ (l : ArchiveLine). l.month) (archive_held w)

-- month, Vm, VmD, Vb, VbD of each line
unfoldable pub five_of_each : List ArchiveLine → List ℕ
five_of_each [] = []
five_of_each (l ∷ ls) = l.month ∷ l.vm.0 ∷ l.vmd.0 ∷ l.vb.0 ∷ l.vbd.0 ∷ five_of_each ls

unfoldable pub codes_held : World → List ℕ
codes_held w = map (λ (l : LogLine). l.code) (held_lines log_lines no_log w.state.core.stores.log.ring w.log)

-- account, waiting and lost of each output
unfoldable pub three_of_each : List Shown → List ℕ
three_of_each [] = []
three_of_each (x ∷ xs) = x.account ∷ x.waiting ∷ x.lost ∷ three_of_each xs

unfoldable pub outputs_shown : World → List ℕ
outputs_shown w = three_of_each (all_shown (rule_at w.state.core.settings) w.state.core.outputs)

unfoldable pub all_emitted : List Reply → List ℕ
all_emitted [] = []
all_emitted (a ∷ rest) = emitted_by a.given ++ all_emitted rest

unfoldable pub six_litres : Values → List ℕ
six_litres v = v.vb ∷ v.vbd ∷ v.vbt ∷ v.vm ∷ v.vmd ∷ v.vmt ∷ []

unfoldable pub all_read : List Reply → List ℕ
all_read [] = []
all_read (a ∷ rest) = readouts_by six_litres a.given ++ all_read rest

unfoldable pub line_said : Option LogLine → List ℕ
line_said (Some l) = l.number ∷ l.time ∷ l.code ∷ []
line_said None = []

-- NUMBER TIME CODE LOOKED, or LOOKED
unfoldable pub last_said : Last → List ℕ
last_said x = line_said x.line ++ (x.looked ∷ [])

unfoldable pub last_by : Given → List ℕ
last_by given.Nothing = []
last_by (given.Value v) = []
last_by (given.Report m) = []
last_by (given.Emitted e) = []
last_by (given.Outputs all) = []
last_by (given.Readout x) = []
last_by (given.Archive l) = []
last_by (given.Log l) = []
last_by (given.Audit l) = []
last_by (given.Last x) = last_said x

unfoldable pub all_last : List Reply → List ℕ
all_last [] = []
all_last (a ∷ rest) = last_by a.given ++ all_last rest

-- the reader accepted, and gave these values
unfoldable pub read_to : Result Values Unread → Values → Bool
read_to (Ok w) v = same_numbers (six_litres w) (six_litres v)
read_to (Err e) v = false

-- a run: the numbers of its answers, and the test of what is seen at the end
unfoldable pub ran_to : State → List Step → List ℕ → (World → Bool) → Bool
ran_to s steps numbers seen =
    let ran = run corrector steps (blank s) in
    same_numbers (map (λ (a : Reply). number_of a) ran.0) numbers && seen ran.1

unfoldable pub holds : Case → Bool
holds (factor_case p tb pb t k answer) = eqb (factor_of p tb pb t k) answer
holds (nearest_case x answer) = same_measured (nearest_of x) answer
holds (measured_case c raw answer) = same_measured (nearest_of (equation_of c raw)) answer
holds (run_case s steps numbers) = ran_to s steps numbers (λ w. true)
holds (counters_case s steps numbers answer) = ran_to s steps numbers (λ w. same_counters (reported w.state.core).counters answer)
holds (alarms_case s steps numbers p t k) = ran_to s steps numbers (λ w. same_alarms w.state.core.measured.alarms p t k)
holds (months_case s steps numbers months) = ran_to s steps numbers (λ w. same_numbers (months_held w) months)
holds (codes_case s steps numbers codes) = ran_to s steps numbers (λ w. same_numbers (codes_held w) codes)
holds (outputs_case s steps numbers shown) = ran_to s steps numbers (λ w. same_numbers (outputs_shown w) shown)
holds (emitted_case s steps numbers emitted) = ran_to s steps numbers (λ w. same_numbers (all_emitted (run corrector steps (blank s)).0) emitted)
holds (readout_case s steps numbers values) = ran_to s steps numbers (λ w. same_numbers (all_read (run corrector steps (blank s)).0) values)
holds (buffer_case s steps numbers before after) = ran_to s steps numbers (λ w. same_numbers (readout_leaves w.state before) after)
holds (last_case s log steps numbers said) =
    let ran = run corrector steps (with_logbook s log) in
    same_numbers (map (λ (a : Reply). number_of a) ran.0) numbers && same_numbers (all_last ran.0) said
holds (check_case v answer) = eqb (check v) answer
holds (accepted_case bytes v) = read_to (parsed bytes) v
holds (refused_case bytes number) = eqb (parsed_number (parsed bytes)) number
holds (archive_case s steps numbers lines) = ran_to s steps numbers (λ w. same_numbers (five_of_each (archive_held w)) lines)

unfoldable pub all_hold : List Row → Bool
all_hold [] = true
all_hold (r ∷ rs) = holds r.asked && all_hold rs

-- ---- what the cases begin with

-- the factory device, started at a time; the codes of locks 2 and 3 are 1,111 and 2,222
unfoldable pub started_at : ℕ → State
started_at time = fresh time 1111 2222

unfoldable pub factory_device : State
factory_device = started_at 0

-- Vm, VmD, VmT in litres, then Vb, VbD, VbT in hundred-thousandths of a litre
abbrev pub counts : ℕ → ℕ → ℕ → ℕ → ℕ → ℕ → Counters
counts vm vmd vmt vb vbd vbt = record { vm = litres_of vm; vmd = litres_of vmd; vmt = litres_of vmt; vb = base_of vb; vbd = base_of vbd; vbt = base_of vbt }

-- the same core with another time, month and counters
unfoldable pub with_measured : Core → ℕ → ℕ → Counters → Core
with_measured c time month counters = record {
  measured = record { time = time; month = month; counters = counters; alarms = c.measured.alarms };
  latches = c.latches;
  locks = c.locks;
  settings = c.settings;
  outputs = c.outputs;
  stores = c.stores;
}

-- the factory device, had it counted so much
unfoldable pub device_at : Counters → State
device_at counters = with_core factory_device (with_measured factory_device.core 0 0 counters)

-- the factory device, had it last accepted this time and kept this month
unfoldable pub device_in : ℕ → ℕ → State
device_in time month = with_core factory_device (with_measured factory_device.core time month nothing_counted)

-- the factory device, had it written n lines into its logbook
unfoldable pub device_logged : ℕ → State
device_logged n =
    let c = factory_device.core in
    with_core factory_device
    (record {
      measured = c.measured;
      latches = c.latches;
      locks = c.locks;
      settings = c.settings;
      outputs = c.outputs;
      stores = record { archive = c.stores.archive; log = book_after log_lines n; audit = c.stores.audit };
    })

-- a logbook of blank lines, and one in which an alarm of p stands at this place: line `number` says that it came at 60
abbrev pub blank_log : List LogLine
blank_log = replicate log_lines no_log

abbrev pub alarm_at : ℕ → ℕ → List LogLine
alarm_at place number = set blank_log place (record { number = number; time = 60; code = 11 })

-- the question when a code last came
abbrev pub when_last : ℕ → Step
when_last code = Ask (question.Last code)

-- settings with this choice and weight for output k
unfoldable pub ruled : ℕ → ℕ → ℕ → List Setting → List Setting
ruled k choice weight a = set (set a (first_choice + k) (setting_of (Whole (pos choice)))) (first_weight + k) (setting_of (Whole (pos weight)))

-- the same choice and weight for all four
unfoldable pub all_ruled : ℕ → ℕ → List Setting
all_ruled choice weight = ruled 0 choice weight (ruled 1 choice weight (ruled 2 choice weight (ruled 3 choice weight factory_settings)))

-- an output: account, waiting, lost
abbrev pub an_output : ℕ → ℕ → ℕ → Output
an_output account waiting lost = record { account = account_of account; waiting = waiting; lost = lost }

-- the factory device with these settings and these outputs
unfoldable pub device_with : List Setting → List Output → State
device_with a o =
    let c = factory_device.core in
    with_core factory_device (record { measured = c.measured; latches = c.latches; locks = c.locks; settings = a; outputs = o; stores = c.stores })

-- output 1 has this choice and weight, and is as given; the others are off
unfoldable pub device_of : ℕ → ℕ → Output → State
device_of choice weight o = device_with (ruled 0 choice weight factory_settings) (o ∷ fresh_output ∷ fresh_output ∷ fresh_output ∷ [])

-- output 1, and then nothing of the other three
abbrev pub first_alone : ℕ → ℕ → ℕ → List ℕ
first_alone account waiting lost = account ∷ waiting ∷ lost ∷ replicate 9 0

-- the supplier's lock is opened, and a session at door 1 puts two settings in force
abbrev pub put_both : ℕ → ℕ → ℕ → ℕ → List Step
put_both first v second u =
    Turn (Open 2 1111) ∷ Call 1 Begin ∷ Call 1 (Write first (Whole (pos v))) ∷ Call 1 (Write second (Whole (pos u))) ∷ Commit 1 ∷ []

-- a session at door 1 that tries to put one setting in force, alone
abbrev pub put_alone : ℕ → ℕ → List Step
put_alone setting v = Call 1 Begin ∷ Call 1 (Write setting (Whole (pos v))) ∷ Commit 1 ∷ []

-- a cycle at a time, of n pulses, raw 7,680 and a pressure in pascals; K is not computed
abbrev pub a_cycle : ℕ → ℕ → ℕ → Step
a_cycle time n p = Cycle (record { time = time; n = n; raw = Some 7680; pressure = Some p; k = None })

-- six values in litres: Vb, VbD, VbT, Vm, VmD, VmT
abbrev pub litres : ℕ → ℕ → ℕ → ℕ → ℕ → ℕ → Values
litres vb vbd vbt vm vmd vmt = record { vb = vb; vbd = vbd; vbt = vbt; vm = vm; vmd = vmd; vmt = vmt }

-- a device that has counted: one cycle on the main side, and one disturbed
abbrev pub both_sides : List Step
both_sides = a_cycle 60 10 202650 ∷ a_cycle 120 10 89999 ∷ []

-- a line of a message, as it is printed, with its CR LF
abbrev pub printed : String → List ℕ
printed s = bytes s ++ (13 ∷ 10 ∷ [])

abbrev pub line_of : String → String → List ℕ
line_of address value = bytes address ++ bytes "(" ++ bytes value ++ printed "*m3)"

-- the message of that device, byte by byte: STX, the lines, ETX, and the check character, which is `/`
unfoldable pub its_message : List ℕ
its_message =
    (2 ∷ [])
    ++ printed "2:300(000000001.863*m3)"
    ++ printed "2:301(000000000.931*m3)"
    ++ printed "2:302(000000002.795*m3)"
    ++ printed "4:300(000000001.000*m3)"
    ++ printed "4:301(000000001.000*m3)"
    ++ printed "4:302(000000002.000*m3)"
    ++ printed "!"
    ++ (3 ∷ [])
    ++ bytes "/"

-- a message with one value in all six lines, and its check character
abbrev pub of_six : String → ℕ → List ℕ
of_six value last =
    (2 ∷ [])
    ++ line_of "2:300" value
    ++ line_of "2:301" value
    ++ line_of "2:302" value
    ++ line_of "4:300" value
    ++ line_of "4:301" value
    ++ line_of "4:302" value
    ++ printed "!"
    ++ (3 ∷ last ∷ [])

-- one command of each kind
abbrev pub one_of_each : List Step
one_of_each =
    a_cycle 60 1 202650
    ∷ Turn (Open 1 0) ∷ Turn (Shut 1) ∷ Clear ∷ Tick 601
    ∷ Ask question.Report ∷ Ask question.Outputs ∷ Ask (question.Readout 156) ∷ Ask (question.Readout 155) ∷ Ask (question.Archive 0) ∷ Ask (question.Log 0) ∷ Ask (question.Audit 0)
    ∷ Call 1 Begin ∷ Call 1 (Read 1) ∷ Call 1 (Write 1 (Whole (pos 1))) ∷ Call 1 Abandon
    ∷ Commit 1
    ∷ []

-- each of them is refused with 1
abbrev pub one_each : List ℕ
one_each = replicate 17 1

-- ---- the table

-- The rows of document 01 and of requests One and Two. A float ± m · 2^e is `fin s m e`, with a minus where s is true.
unfoldable pub rows_to_two : List Row
rows_to_two =
    row (H 1) (factor_case 101325 27315 101325 27315 10000 100000)
    ∷ row (H 2) (factor_case 202650 27315 101325 (kelvin_of (pos 2000)) 10000 186355)
    ∷ row (H 3) (factor_case 100001 27315 100000 27315 20000 50001)
    ∷ row (H 4) (measured_case (coefficients_in factory_settings) 7680 (Some (pos 2000)))
    ∷ row (H 4) (counters_case factory_device (a_cycle 60 10 202650 ∷ []) (0 ∷ []) (counts 1000 0 1000 186355000 0 186355000))
    ∷ row (H 5) (counters_case factory_device (a_cycle 60 10 89999 ∷ []) (0 ∷ []) (counts 0 1000 1000 0 93178000 93178000))  -- 93,178 is the factor with p.F
    ∷ row (H 5) (alarms_case factory_device (a_cycle 60 10 89999 ∷ []) (0 ∷ []) true false false)
    ∷ row (H 5) (counters_case factory_device (a_cycle 60 10 90000 ∷ []) (0 ∷ []) (counts 1000 0 1000 82763000 0 82763000))
    ∷ row (H 5) (alarms_case factory_device (a_cycle 60 10 90000 ∷ []) (0 ∷ []) false false false)
    ∷ row (H 6) (nearest_case (fin true 1 (neg_ℤ (pos 1))) (Some (neg_ℤ (pos 1))))  -- -0.5
    ∷ row (H 6) (nearest_case (fin false 4001 (neg_ℤ (pos 1))) (Some (pos 2001)))  -- 2,000.5
    ∷ row (H 6) (nearest_case (fin true 1 (neg_ℤ (pos 2))) (Some (pos 0)))  -- -0.25
    ∷ row (H 6) (nearest_case (of_bits binary64 0x40d3_8800_0000_0000) (Some (pos 20000)))  -- 20,000, by its bits
    ∷ row (H 6) (nearest_case (of_bits binary64 0x40d3_8800_0000_0001) None)  -- the next float above
    ∷ row (H 7) (counters_case (device_at (counts 999999999900 0 999999999900 0 0 0)) (a_cycle 60 1 202650 ∷ []) (0 ∷ []) (counts 0 0 0 18635500 0 18635500))
    -- H8 as document 02, Two, moved it
    ∷ row (H 8) (months_case factory_device (a_cycle 2699999 0 202650 ∷ []) (0 ∷ []) [])
    ∷ row (H 8) (months_case factory_device (a_cycle 2700000 0 202650 ∷ []) (0 ∷ []) (0 ∷ []))
    ∷ row (H 9) (months_case factory_device (a_cycle 3155759999 0 202650 ∷ []) (0 ∷ [])
    (1198 ∷ 1197 ∷ 1196 ∷ 1195 ∷ 1194 ∷ 1193 ∷ 1192 ∷ 1191 ∷ 1190 ∷ 1189 ∷ 1188 ∷ 1187 ∷ 1186 ∷ 1185 ∷ 1184 ∷ []))
    ∷ row (H 9) (months_case factory_device (a_cycle 3155760000 0 202650 ∷ []) (6 ∷ []) [])
    ∷ row (H 10) (counters_case factory_device (a_cycle 60 600 202650 ∷ []) (0 ∷ []) (counts 60000 0 60000 11181300000 0 11181300000))
    ∷ row (H 10) (counters_case factory_device (a_cycle 60 601 202650 ∷ []) (7 ∷ []) (counts 0 0 0 0 0 0))
    ∷ row (H 11) (run_case factory_device (Turn (Open 2 1111) ∷ Call 1 Begin ∷ Call 1 (Read 16) ∷ Call 2 Begin ∷ Call 2 (Write 16 (Whole (pos 9900))) ∷ Commit 2 ∷ Call 1 (Write 14 (Whole (pos 200000))) ∷ Commit 1 ∷ [])
    (0 ∷ 0 ∷ 0 ∷ 0 ∷ 0 ∷ 0 ∷ 0 ∷ 11 ∷ []))
    ∷ row (H 11) (run_case factory_device (Turn (Open 2 1111) ∷ Call 1 Begin ∷ Call 2 Begin ∷ Call 2 (Write 16 (Whole (pos 9900))) ∷ Commit 2 ∷ Call 1 (Write 14 (Whole (pos 200000))) ∷ Commit 1 ∷ [])
    (0 ∷ 0 ∷ 0 ∷ 0 ∷ 0 ∷ 0 ∷ 0 ∷ []))  -- without the read
    ∷ row (H 12) (run_case factory_device (Turn (Open 1 0) ∷ Call 1 Begin ∷ Call 1 (Write 8 (Whole (pos 80000))) ∷ Commit 1 ∷ []) (0 ∷ 0 ∷ 0 ∷ 12 ∷ []))
    ∷ row (H 12) (run_case factory_device (Turn (Open 1 0) ∷ Call 1 Begin ∷ Call 1 (Write 8 (Whole (pos 80000))) ∷ Call 1 (Write 7 (Whole (pos 80000))) ∷ Commit 1 ∷ []) (0 ∷ 0 ∷ 0 ∷ 0 ∷ 0 ∷ []))
    -- Document 02, One. A pulse is 100 litres. At base conditions these are 18,635,500 with the factor 186,355, and 9,317,800 in a disturbed cycle.
    -- A disturbed cycle and a main one: 93,178,000 + 82,763,000 = 175,941,000.
    ∷ row (Request 1) (counters_case factory_device (a_cycle 60 10 89999 ∷ a_cycle 120 10 90000 ∷ []) (0 ∷ 0 ∷ []) (counts 1000 1000 2000 82763000 93178000 175941000))
    -- VmT rolls over while neither part does: by a main pulse, and by a disturbed one
    ∷ row (Request 1) (counters_case (device_at (counts 600000000000 399999999900 999999999900 0 0 0)) (a_cycle 60 1 202650 ∷ []) (0 ∷ []) (counts 600000000100 399999999900 0 18635500 0 18635500))
    ∷ row (Request 1) (counters_case (device_at (counts 600000000000 399999999900 999999999900 0 0 0)) (a_cycle 60 1 89999 ∷ []) (0 ∷ []) (counts 600000000000 400000000000 0 0 9317800 9317800))
    -- VbT does: 60,000,000,000,000,000 + 39,999,999,981,364,500 + 18,635,500 = 10^17
    ∷ row (Request 1) (counters_case (device_at (counts 0 0 0 60000000000000000 39999999981364500 99999999981364500)) (a_cycle 60 1 202650 ∷ []) (0 ∷ []) (counts 100 0 100 60000000018635500 39999999981364500 0))
    -- all parts at their highest: 999,999,999,999 twice is 999,999,999,998 under the rollover
    ∷ row (Request 1) (counters_case (device_at (counts 999999999999 999999999999 999999999998 99999999999999999 99999999999999999 99999999999999998)) (a_cycle 60 1 202650 ∷ []) (0 ∷ [])
    (counts 99 999999999999 98 18635499 99999999999999999 18635498))
    -- a kept total that is one off, and one that was not rolled over: every command is refused with 1
    ∷ row (Request 1) (run_case (device_at (counts 1000 500 1501 0 0 0)) one_of_each one_each)
    ∷ row (Request 1) (run_case (device_at (counts 0 0 0 1000 500 1499)) one_of_each one_each)
    ∷ row (Request 1) (run_case (device_at (counts 600000000000 400000000000 1000000000000 0 0 0)) one_of_each one_each)
    ∷ row (Request 1) (run_case (device_at (counts 600000000000 400000000000 0 0 0 0)) (Ask question.Report ∷ []) (0 ∷ []))
    -- Document 02, Two. January 2000 has 31 days, so month 1 begins at 31 · 86,400 + 21,600 = 2,700,000. Midnight of 1 February is 2,678,400: no month is crossed.
    ∷ row (Request 2) (months_case factory_device (a_cycle 2678400 0 202650 ∷ []) (0 ∷ []) [])
    -- ten pulses before that midnight, ten at 03:00, ten at 06:00: the line of month 0 has the first twenty. 2 · 186,355,000 = 372,710,000
    ∷ row (Request 2) (archive_case factory_device (a_cycle 2678399 10 202650 ∷ a_cycle 2689200 10 202650 ∷ a_cycle 2700000 10 202650 ∷ []) (0 ∷ 0 ∷ 0 ∷ [])
    (0 ∷ 2000 ∷ 0 ∷ 372710000 ∷ 0 ∷ []))
    -- a start at 03:00 of 1 February 2000 is in month 0
    ∷ row (Request 2) (months_case (started_at 2689200) (a_cycle 2699999 0 202650 ∷ a_cycle 2700000 0 202650 ∷ []) (0 ∷ 0 ∷ []) (0 ∷ []))
    -- the first six hours of the first day: month 0; a state there with month 1,199 is not whole
    ∷ row (Request 2) (months_case factory_device (a_cycle 0 0 202650 ∷ a_cycle 21599 0 202650 ∷ a_cycle 21600 0 202650 ∷ []) (0 ∷ 0 ∷ 0 ∷ []) [])
    ∷ row (Request 2) (run_case (device_in 21599 0) (Ask question.Report ∷ []) (0 ∷ []))
    ∷ row (Request 2) (run_case (device_in 21599 1199) one_of_each one_each)
    -- the end of a leap February, 31 + 29 = 60 days: 60 · 86,400 + 21,600 = 5,205,600. 5,097,600 is 00:00 of the 29th.
    ∷ row (Request 2) (months_case (started_at 5097600) (a_cycle 5205599 0 202650 ∷ []) (0 ∷ []) [])
    ∷ row (Request 2) (months_case (started_at 5097600) (a_cycle 5205600 0 202650 ∷ []) (0 ∷ []) (1 ∷ []))
    -- the turn of the year 2000, which has 366 days: 366 · 86,400 + 21,600 = 31,644,000. 31,536,000 is 00:00 of 31 December.
    ∷ row (Request 2) (months_case (started_at 31536000) (a_cycle 31643999 0 202650 ∷ []) (0 ∷ []) [])
    ∷ row (Request 2) (months_case (started_at 31536000) (a_cycle 31644000 0 202650 ∷ []) (0 ∷ []) (11 ∷ []))
    -- before six the state with the new month is not whole, and the one with the old month is; from six on it is the other way round
    ∷ row (Request 2) (run_case (device_in 2678400 1) one_of_each one_each)
    ∷ row (Request 2) (run_case (device_in 2699999 0) (Ask question.Report ∷ []) (0 ∷ []))
    ∷ row (Request 2) (run_case (device_in 2700000 0) one_of_each one_each)
    ∷ row (Request 2) (run_case (device_in 2700000 1) (Ask question.Report ∷ []) (0 ∷ []))
    ∷ []

-- the rows of request Three
unfoldable pub rows_of_three : List Row
rows_of_three =
    -- Document 02, Three. Ten pulses are 1,000 litres, and 186,355,000 hundred-thousandths at base conditions. Output 1 on VbT at 100 litres, which is
    -- 10,000,000 hundred-thousandths: 18 pulses, and 6,355,000 stay. Ticks of 5 and of 30 take 5 and the 13 that are left.
    row (Request 3) (outputs_case factory_device (put_both 22 6 26 100 ++ (a_cycle 60 10 202650 ∷ [])) (replicate 6 0) (first_alone 6355000 18 0))
    ∷ row (Request 3) (emitted_case factory_device (put_both 22 6 26 100 ++ (a_cycle 60 10 202650 ∷ Tick 5 ∷ Tick 30 ∷ Tick 30 ∷ [])) (replicate 9 0)
    (5 ∷ 0 ∷ 0 ∷ 0 ∷ 13 ∷ 0 ∷ 0 ∷ 0 ∷ 0 ∷ 0 ∷ 0 ∷ 0 ∷ []))
    -- VmT at 1,000 litres: exactly one weight. At 1,001: one litre short, so all 1,000 stay. At 999: one pulse, and one litre stays. At 1: a thousand pulses
    ∷ row (Request 3) (outputs_case (device_of 3 1000 (an_output 0 0 0)) (a_cycle 60 10 202650 ∷ []) (0 ∷ []) (first_alone 0 1 0))
    ∷ row (Request 3) (outputs_case (device_of 3 1001 (an_output 0 0 0)) (a_cycle 60 10 202650 ∷ []) (0 ∷ []) (first_alone 100000000 0 0))
    ∷ row (Request 3) (outputs_case (device_of 3 999 (an_output 0 0 0)) (a_cycle 60 10 202650 ∷ []) (0 ∷ []) (first_alone 100000 1 0))
    ∷ row (Request 3) (outputs_case (device_of 3 1 (an_output 0 0 0)) (a_cycle 60 10 202650 ∷ []) (0 ∷ []) (first_alone 0 1000 0))
    -- what is in the account counts: one litre there and 1,000 litres are one weight of 1,001
    ∷ row (Request 3) (outputs_case (device_of 3 1001 (an_output 1 0 0)) (a_cycle 60 10 202650 ∷ []) (0 ∷ []) (first_alone 0 1 0))
    -- a disturbed cycle: Vm gains nothing, VmD and VmT 1,000 litres, VbD 93,178,000 hundred-thousandths; all at 100 litres a pulse
    ∷ row (Request 3) (outputs_case (device_with (ruled 0 1 100 (ruled 1 2 100 (ruled 2 3 100 (ruled 3 5 100 factory_settings)))) (replicate 4 fresh_output)) (a_cycle 60 10 89999 ∷ []) (0 ∷ [])
    (0 ∷ 0 ∷ 0 ∷ 0 ∷ 10 ∷ 0 ∷ 0 ∷ 10 ∷ 0 ∷ 3178000 ∷ 9 ∷ 0 ∷ []))
    -- exactly 65,535 wait: no loss, no line. One more is lost and has its line
    ∷ row (Request 3) (outputs_case (device_of 3 1000 (an_output 0 65534 7)) (a_cycle 60 10 202650 ∷ []) (0 ∷ []) (first_alone 0 65535 7))
    ∷ row (Request 3) (codes_case (device_of 3 1000 (an_output 0 65534 7)) (a_cycle 60 10 202650 ∷ []) (0 ∷ []) [])
    ∷ row (Request 3) (outputs_case (device_of 3 1000 (an_output 0 65535 7)) (a_cycle 60 10 202650 ∷ []) (0 ∷ []) (first_alone 0 65535 8))
    ∷ row (Request 3) (codes_case (device_of 3 1000 (an_output 0 65535 7)) (a_cycle 60 10 202650 ∷ []) (0 ∷ []) (51 ∷ []))
    -- the room is used again after a tick
    ∷ row (Request 3) (outputs_case (device_of 3 1000 (an_output 0 65535 7)) (Tick 600 ∷ a_cycle 60 10 202650 ∷ []) (0 ∷ 0 ∷ []) (first_alone 0 64936 7))
    -- a thousand lost pulses have one line; it comes after the alarm's, and those of four outputs come in their order. Line 0 is the newest
    ∷ row (Request 3) (codes_case (device_of 3 1 (an_output 0 65535 0)) (a_cycle 60 10 89999 ∷ []) (0 ∷ []) (51 ∷ 11 ∷ []))
    ∷ row (Request 3) (codes_case (device_with (all_ruled 3 1000) (replicate 4 (an_output 0 65535 0))) (a_cycle 60 10 89999 ∷ []) (0 ∷ []) (54 ∷ 53 ∷ 52 ∷ 51 ∷ 11 ∷ []))
    -- the lost counter counts modulo 2^32
    ∷ row (Request 3) (outputs_case (device_of 3 1000 (an_output 0 65535 4294967295)) (a_cycle 60 10 202650 ∷ []) (0 ∷ []) (first_alone 0 65535 0))
    -- 600 pulses of 100,000 litres at 10,000,000 Pa: the factor is 9,195,910, so 5,517,546,000 litres at base conditions and as many pulses at weight 1.
    -- 5,517,546,000 - 65,535 = 5,517,480,465 are lost, which is 1,222,513,169 modulo 2^32
    ∷ row (Request 3) (outputs_case (device_with (set (set (ruled 0 6 1 factory_settings) cp (setting_of (Whole (pos 4)))) p_max (setting_of (Whole (pos 10000000)))) (replicate 4 fresh_output)) (a_cycle 60 600 10000000 ∷ []) (0 ∷ [])
    (first_alone 0 65535 1222513169))
    -- the gain is taken before the rollover: VmT goes from 999,999,999,900 to 0 and output 1 gets its pulse
    ∷ row (Request 3) (outputs_case (with_core (device_of 3 100 (an_output 0 0 0)) (with_measured (device_of 3 100 (an_output 0 0 0)).core 0 0 (counts 999999999900 0 999999999900 0 0 0))) (a_cycle 60 1 202650 ∷ []) (0 ∷ [])
    (first_alone 0 1 0))
    -- another weight drops the account, and so does another choice; the same weight and choice once more keep it; what waits and what was lost stay
    ∷ row (Request 3) (outputs_case (device_of 3 1000 (an_output 500 3 2)) (put_both 22 3 26 999) (replicate 5 0) (first_alone 0 3 2))
    ∷ row (Request 3) (outputs_case (device_of 3 1000 (an_output 500 3 2)) (put_both 22 1 26 1000) (replicate 5 0) (first_alone 0 3 2))
    ∷ row (Request 3) (outputs_case (device_of 3 1000 (an_output 500 3 2)) (put_both 22 3 26 1000) (replicate 5 0) (first_alone 50000000 3 2))
    ∷ row (Request 3) (outputs_case (device_of 3 1000 (an_output 500 3 2)) (put_both 23 6 27 1) (replicate 5 0) (first_alone 50000000 3 2))
    ∷ row (Request 3) (outputs_case (device_of 3 1000 (an_output 500 3 2)) (put_both 22 0 26 1000 ++ (a_cycle 60 10 202650 ∷ Tick 2 ∷ [])) (replicate 7 0) (first_alone 0 1 2))
    -- a tick names at most 600
    ∷ row (Request 3) (emitted_case (device_of 3 1000 (an_output 0 601 0)) (Tick 600 ∷ Tick 601 ∷ []) (0 ∷ 15 ∷ []) (600 ∷ 0 ∷ 0 ∷ 0 ∷ []))
    -- the ends of the ranges; there is no setting 30
    ∷ row (Request 3) (run_case factory_device (Call 1 Begin ∷ Call 1 (Write 22 (Whole (pos 6))) ∷ Call 1 (Write 25 (Whole (pos 7))) ∷ Call 1 (Write 26 (Whole (pos 0))) ∷ Call 1 (Write 29 (Whole (pos 1000000))) ∷ Call 1 (Write 29 (Whole (pos 1000001))) ∷ Call 1 (Read 29) ∷ Call 1 (Read 30) ∷ [])
    (0 ∷ 0 ∷ 9 ∷ 9 ∷ 0 ∷ 9 ∷ 0 ∷ 3 ∷ []))
    -- the supplier's lock
    ∷ row (Request 3) (run_case factory_device (Turn (Open 3 2222) ∷ Call 1 Begin ∷ Call 1 (Write 26 (Whole (pos 5))) ∷ Commit 1 ∷ []) (0 ∷ 0 ∷ 0 ∷ 10 ∷ []))
    -- an account of a whole weight, in litres and in hundred-thousandths, and something in the account of an output that is off: every command is refused with 1
    ∷ row (Request 3) (run_case (device_of 3 1000 (an_output 1000 0 0)) one_of_each one_each)
    ∷ row (Request 3) (run_case (device_of 3 1000 (an_output 999 0 0)) (Ask question.Outputs ∷ []) (0 ∷ []))
    ∷ row (Request 3) (run_case (device_of 4 1 (an_output 100000 0 0)) one_of_each one_each)
    ∷ row (Request 3) (run_case (device_of 4 1 (an_output 99999 0 0)) (Ask question.Outputs ∷ []) (0 ∷ []))
    ∷ row (Request 3) (run_case (device_of 0 100 (an_output 1 0 0)) one_of_each one_each)
    ∷ row (Request 3) (run_case (device_of 0 100 (an_output 0 1 1)) (Ask question.Outputs ∷ []) (0 ∷ []))
    ∷ []

-- the rows of requests Four to Six
unfoldable pub rows_to_six : List Row
rows_to_six =
    -- Document 02, Four: the rights, row by row. Settings 1, 17 and 21 are of locks cal, sup and cust. No lock open: 10
    row (Request 4) (run_case factory_device (put_alone 1 1) (0 ∷ 0 ∷ 10 ∷ []))
    ∷ row (Request 4) (run_case factory_device (put_alone 17 11000) (0 ∷ 0 ∷ 10 ∷ []))
    ∷ row (Request 4) (run_case factory_device (put_alone 21 7) (0 ∷ 0 ∷ 10 ∷ []))
    -- lock 1 gives all three rights
    ∷ row (Request 4) (run_case factory_device (Turn (Open 1 0) ∷ put_alone 1 1) (0 ∷ 0 ∷ 0 ∷ 0 ∷ []))
    ∷ row (Request 4) (run_case factory_device (Turn (Open 1 0) ∷ put_alone 17 11000) (0 ∷ 0 ∷ 0 ∷ 0 ∷ []))
    ∷ row (Request 4) (run_case factory_device (Turn (Open 1 0) ∷ put_alone 21 7) (0 ∷ 0 ∷ 0 ∷ 0 ∷ []))
    -- lock 2 gives sup and cust
    ∷ row (Request 4) (run_case factory_device (Turn (Open 2 1111) ∷ put_alone 1 1) (0 ∷ 0 ∷ 0 ∷ 10 ∷ []))
    ∷ row (Request 4) (run_case factory_device (Turn (Open 2 1111) ∷ put_alone 17 11000) (0 ∷ 0 ∷ 0 ∷ 0 ∷ []))
    ∷ row (Request 4) (run_case factory_device (Turn (Open 2 1111) ∷ put_alone 21 7) (0 ∷ 0 ∷ 0 ∷ 0 ∷ []))
    -- lock 3 gives cust alone, and locks 2 and 3 together do not give cal
    ∷ row (Request 4) (run_case factory_device (Turn (Open 3 2222) ∷ put_alone 1 1) (0 ∷ 0 ∷ 0 ∷ 10 ∷ []))
    ∷ row (Request 4) (run_case factory_device (Turn (Open 3 2222) ∷ put_alone 17 11000) (0 ∷ 0 ∷ 0 ∷ 10 ∷ []))
    ∷ row (Request 4) (run_case factory_device (Turn (Open 3 2222) ∷ put_alone 21 7) (0 ∷ 0 ∷ 0 ∷ 0 ∷ []))
    ∷ row (Request 4) (run_case factory_device (Turn (Open 2 1111) ∷ Turn (Open 3 2222) ∷ put_alone 1 1) (0 ∷ 0 ∷ 0 ∷ 0 ∷ 10 ∷ []))
    -- one commit of two settings, 21 and 17: lock 3 gives the right to the first only
    ∷ row (Request 4) (run_case factory_device (Turn (Open 3 2222) ∷ Call 1 Begin ∷ Call 1 (Write 21 (Whole (pos 7))) ∷ Call 1 (Write 17 (Whole (pos 11000))) ∷ Commit 1 ∷ []) (0 ∷ 0 ∷ 0 ∷ 0 ∷ 10 ∷ []))
    -- Clear needs lock 1 or 2
    ∷ row (Request 4) (run_case factory_device (Clear ∷ Turn (Open 3 2222) ∷ Clear ∷ Turn (Open 2 1111) ∷ Clear ∷ Turn (Shut 2) ∷ Turn (Open 1 0) ∷ Clear ∷ []) (10 ∷ 0 ∷ 10 ∷ 0 ∷ 0 ∷ 0 ∷ 0 ∷ 0 ∷ []))
    -- T.F from -10,000 to 20,000, both included, and no float; the last row, a weight, from 1 to 1,000,000
    ∷ row (Request 4) (run_case factory_device
    (Call 2 Begin ∷ Call 2 (Write 15 (Whole (neg_ℤ (pos 10001)))) ∷ Call 2 (Write 15 (Whole (neg_ℤ (pos 10000)))) ∷ Call 2 (Write 15 (Whole (pos 20000))) ∷ Call 2 (Write 15 (Whole (pos 20001)))
    ∷ Call 2 (Write 15 (Coefficient (fin false 1 (pos 0)))) ∷ [])
    (0 ∷ 9 ∷ 0 ∷ 0 ∷ 9 ∷ 9 ∷ []))
    ∷ row (Request 4) (run_case factory_device
    (Call 2 Begin ∷ Call 2 (Write 29 (Whole (pos 0))) ∷ Call 2 (Write 29 (Whole (pos 1))) ∷ Call 2 (Write 29 (Whole (pos 1000000))) ∷ Call 2 (Write 29 (Whole (pos 1000001))) ∷ Call 2 (Write 30 (Whole (pos 1))) ∷ [])
    (0 ∷ 9 ∷ 0 ∷ 0 ∷ 9 ∷ 3 ∷ []))
    -- Eq1.T takes any finite float, and no whole number
    ∷ row (Request 4) (run_case factory_device
    (Call 2 Begin ∷ Call 2 (Write 11 (Coefficient (fin true 1 (pos 1000)))) ∷ Call 2 (Write 11 (Coefficient (inf true))) ∷ Call 2 (Write 11 (Coefficient nan)) ∷ Call 2 (Write 11 (Whole (pos 0))) ∷ [])
    (0 ∷ 0 ∷ 9 ∷ 9 ∷ 9 ∷ []))
    -- Document 02, Five. Vb 1,863.55 litres, VbD 931.78, VbT 2,795.33; Vm 1,000, VmD 1,000, VmT 2,000. Cut off downwards they are 1,863, 931 and 2,795: the kept total, and not
    -- 1,863 + 931 = 2,794
    ∷ row (Request 5) (readout_case factory_device (both_sides ++ (Ask (question.Readout 156) ∷ [])) (0 ∷ 0 ∷ 0 ∷ []) (1863 ∷ 931 ∷ 2795 ∷ 1000 ∷ 1000 ∷ 2000 ∷ []))
    -- The check character by hand. What stands in all six lines cancels in pairs: `:`, `3`, `0`, `(`, `.`, `*`, `m`, `3`, `)`, CR, LF. So do the high halves of the 72 digits, and the
    -- ends of the addresses, which are 0, 1 and 2 twice. Left are `2` three times and `4` three times, 32 xor 34 = 06; `!`, CR, LF, ETX, 21 xor 0d xor 0a xor 03 = 25; together 23;
    -- and the digits themselves: 1 8 6 3 give c, 9 3 1 give b, 2 7 9 5 give 9, and then 1, 1 and 2; c xor b xor 9 xor 1 xor 1 xor 2 = c. 23 xor 0c = 2f, which is `/`
    ∷ row (Request 5) (check_case (litres 1863 931 2795 1000 1000 2000) 47)
    ∷ row (Request 5) (buffer_case factory_device both_sides (0 ∷ 0 ∷ []) (replicate 156 170) its_message)
    -- no digit but 0: 23, which is `#`. 72 nines cancel. One 1: 22. The digits 1 to 9, 0, 1, 2 give 2: 21
    ∷ row (Request 5) (check_case (litres 0 0 0 0 0 0) 35)
    ∷ row (Request 5) (check_case (litres 999999999999 999999999999 999999999999 999999999999 999999999999 999999999999) 35)
    ∷ row (Request 5) (check_case (litres 0 0 0 0 0 1) 34)
    ∷ row (Request 5) (check_case (litres 0 123456789012 0 0 0 0) 33)
    -- the bytes past the message stay; in a buffer one byte short, or empty, all do
    ∷ row (Request 5) (buffer_case factory_device both_sides (0 ∷ 0 ∷ []) (replicate 156 170 ++ (7 ∷ 0 ∷ 255 ∷ [])) (its_message ++ (7 ∷ 0 ∷ 255 ∷ [])))
    ∷ row (Request 5) (buffer_case factory_device both_sides (0 ∷ 0 ∷ []) (replicate 155 170) (replicate 155 170))
    ∷ row (Request 5) (buffer_case factory_device both_sides (0 ∷ 0 ∷ []) [] [])
    -- 16 below 156 bytes, and not from 156 on. A fresh device says six zeros
    ∷ row (Request 5) (readout_case factory_device (Ask (question.Readout 0) ∷ Ask (question.Readout 155) ∷ Ask (question.Readout 156) ∷ Ask (question.Readout 157) ∷ []) (16 ∷ 16 ∷ 0 ∷ 0 ∷ []) (replicate 12 0))
    -- a readout of one moment, in the middle of sessions at both doors, counts as nothing for them: the commit is stale as in H11
    ∷ row (Request 5) (run_case factory_device
    (Turn (Open 2 1111) ∷ Call 1 Begin ∷ Call 1 (Read 16) ∷ Call 2 Begin ∷ Ask (question.Readout 156) ∷ Call 2 (Write 16 (Whole (pos 9900))) ∷ Ask (question.Readout 12) ∷ Commit 2 ∷ Ask (question.Readout 200)
    ∷ Call 1 (Write 14 (Whole (pos 200000))) ∷ Commit 1 ∷ [])
    (0 ∷ 0 ∷ 0 ∷ 0 ∷ 0 ∷ 0 ∷ 16 ∷ 0 ∷ 0 ∷ 0 ∷ 11 ∷ []))
    -- cut off and never rounded up: 99,999 hundred-thousandths are no litre, 199,999 are one
    ∷ row (Request 5) (readout_case (device_at (counts 0 0 0 99999 199999 299998)) (Ask (question.Readout 156) ∷ []) (0 ∷ []) (0 ∷ 1 ∷ 2 ∷ 0 ∷ 0 ∷ 0 ∷ []))
    -- the highest values, and the totals under their rollover
    ∷ row (Request 5) (readout_case (device_at (counts 999999999999 999999999999 999999999998 99999999999999999 99999999999999999 99999999999999998)) (Ask (question.Readout 156) ∷ []) (0 ∷ [])
    (999999999999 ∷ 999999999999 ∷ 999999999999 ∷ 999999999999 ∷ 999999999999 ∷ 999999999998 ∷ []))
    -- a total that is not main plus disturbed: 1 comes before 16, and nothing is written
    ∷ row (Request 5) (run_case (device_at (counts 1 0 0 0 0 0)) (Ask (question.Readout 155) ∷ Ask (question.Readout 156) ∷ []) (1 ∷ 1 ∷ []))
    ∷ row (Request 5) (buffer_case (device_at (counts 1 0 0 0 0 0)) [] [] (replicate 157 170) (replicate 157 170))
    -- the message of that device reads back. 2,795 is not 1,863 + 931: a total is not tested against its parts
    ∷ row (Request 6) (accepted_case its_message (litres 1863 931 2795 1000 1000 2000))
    -- the last byte is aside in the form: 18. `o` is not the `/` of this message, though they differ in one bit alone
    ∷ row (Request 6) (refused_case (set its_message 155 46) 18)
    ∷ row (Request 6) (refused_case (set its_message 155 111) 18)
    -- no byte; 155 bytes that end in ETX; a byte after the check character
    ∷ row (Request 6) (refused_case [] 17)
    ∷ row (Request 6) (refused_case (take 155 its_message) 17)
    ∷ row (Request 6) (refused_case (its_message ++ (47 ∷ [])) 17)
    -- `M3`, and the check is wrong too: 17 before 18. A blank for the first digit
    ∷ row (Request 6) (refused_case (set its_message 21 77) 17)
    ∷ row (Request 6) (refused_case (set its_message 7 32) 17)
    -- LF CR, and the point one place to the left: the same bytes in another order, so that the check is right
    ∷ row (Request 6) (refused_case (set (set its_message 24 10) 25 13) 17)
    ∷ row (Request 6) (refused_case (set (set its_message 15 46) 16 49) 17)
    -- two lines exchanged, and the check is right; a line left out
    ∷ row (Request 6) (refused_case (take 1 its_message ++ (take 25 (drop 26 its_message) ++ (take 25 (drop 1 its_message) ++ drop 51 its_message))) 17)
    ∷ row (Request 6) (refused_case (take 126 its_message ++ drop 151 its_message) 17)
    -- the last digits of two lines exchanged: this is the message of other values, and its check is right
    ∷ row (Request 6) (accepted_case (set (set its_message 19 49) 44 51) (litres 1861 933 2795 1000 1000 2000))
    -- the ends of the range: six zeros, and six times 999,999,999.999
    ∷ row (Request 6) (accepted_case (of_six "000000000.000" 35) (litres 0 0 0 0 0 0))
    ∷ row (Request 6) (accepted_case (of_six "999999999.999" 35) (litres 999999999999 999999999999 999999999999 999999999999 999999999999 999999999999))
    ∷ []

-- the rows of request Seven: when a code last came
unfoldable pub rows_of_seven : List Row
rows_of_seven =
    -- nothing in an empty book, whatever is asked for; the blank lines of the store have code 0 and are not held
    row (Request 7) (last_case factory_device blank_log (when_last 11 ∷ when_last 0 ∷ when_last 18446744073709551615 ∷ []) (0 ∷ 0 ∷ 0 ∷ []) (0 ∷ 0 ∷ 0 ∷ []))
    -- the telephone call: the alarm of p came at 60 and went at 120, then a lock was opened. Line 2 of the three held, line 1, line 0, and none
    ∷ row (Request 7) (last_case factory_device blank_log (a_cycle 60 10 89999 ∷ a_cycle 120 10 202650 ∷ Turn (Open 2 1111) ∷ when_last 11 ∷ when_last 21 ∷ when_last 32 ∷ when_last 12 ∷ [])
    (replicate 7 0) (0 ∷ 60 ∷ 11 ∷ 3 ∷ 1 ∷ 120 ∷ 21 ∷ 2 ∷ 2 ∷ 120 ∷ 32 ∷ 1 ∷ 3 ∷ []))
    -- it came twice: the newest, and not the oldest
    ∷ row (Request 7) (last_case factory_device blank_log (a_cycle 60 10 89999 ∷ a_cycle 120 10 202650 ∷ a_cycle 180 10 89999 ∷ when_last 11 ∷ []) (replicate 4 0) (2 ∷ 180 ∷ 11 ∷ 1 ∷ []))
    -- none in a full book; 0 is the code of its blank lines
    ∷ row (Request 7) (last_case (device_logged 250) blank_log (when_last 11 ∷ when_last 0 ∷ []) (0 ∷ 0 ∷ []) (250 ∷ 0 ∷ 0 ∷ 0 ∷ 1 ∷ []))
    -- 258 lines were written, so that the oldest of the 250 held stands at place 8: found as the last one, and lost to the next line
    ∷ row (Request 7) (last_case (device_logged 258) (alarm_at 8 8) (when_last 11 ∷ Turn (Open 2 1111) ∷ when_last 11 ∷ when_last 32 ∷ []) (replicate 4 0)
    (8 ∷ 60 ∷ 11 ∷ 250 ∷ 250 ∷ 258 ∷ 0 ∷ 32 ∷ 1 ∷ []))
    -- across the end of the ring: line 0 stands at place 0, line 1 at place 249; and two lines that are written to these places
    ∷ row (Request 7) (last_case (device_logged 251) (alarm_at 249 249) (when_last 11 ∷ []) (0 ∷ []) (249 ∷ 60 ∷ 11 ∷ 2 ∷ []))
    ∷ row (Request 7) (last_case (device_logged 249) blank_log (Turn (Open 2 1111) ∷ Turn (Shut 2) ∷ when_last 32 ∷ when_last 42 ∷ []) (replicate 4 0) (249 ∷ 0 ∷ 32 ∷ 2 ∷ 250 ∷ 0 ∷ 42 ∷ 1 ∷ []))
    -- 8 lines are held, at places 0 to 7: the newest, the oldest, and what stands on either side of them
    ∷ row (Request 7) (last_case (device_logged 8) (alarm_at 7 7) (when_last 11 ∷ []) (0 ∷ []) (7 ∷ 60 ∷ 11 ∷ 1 ∷ []))
    ∷ row (Request 7) (last_case (device_logged 8) (alarm_at 0 0) (when_last 11 ∷ []) (0 ∷ []) (0 ∷ 60 ∷ 11 ∷ 8 ∷ []))
    ∷ row (Request 7) (last_case (device_logged 8) (alarm_at 8 8) (when_last 11 ∷ []) (0 ∷ []) (8 ∷ []))
    ∷ row (Request 7) (last_case (device_logged 8) (alarm_at 249 249) (when_last 11 ∷ []) (0 ∷ []) (8 ∷ []))
    -- after line 65,535 comes line 0
    ∷ row (Request 7) (last_case (device_logged 65536) blank_log (Turn (Open 2 1111) ∷ when_last 32 ∷ []) (0 ∷ 0 ∷ []) (0 ∷ 0 ∷ 32 ∷ 1 ∷ []))
    -- refused by 1 alone: a logbook one line short or one line long; a state that is not whole
    ∷ row (Request 7) (last_case (device_logged 8) (take 249 blank_log) (when_last 11 ∷ []) (1 ∷ []) [])
    ∷ row (Request 7) (last_case (device_logged 8) (replicate 251 no_log) (when_last 11 ∷ []) (1 ∷ []) [])
    ∷ row (Request 7) (last_case (device_at (counts 1 0 0 0 0 0)) blank_log (when_last 11 ∷ []) (1 ∷ []) [])
    -- and each of the other states that are not whole
    ∷ row (Request 7) (run_case (device_at (counts 1000 500 1501 0 0 0)) (when_last 0 ∷ []) (1 ∷ []))
    ∷ row (Request 7) (run_case (device_at (counts 0 0 0 1000 500 1499)) (when_last 0 ∷ []) (1 ∷ []))
    ∷ row (Request 7) (run_case (device_at (counts 600000000000 400000000000 1000000000000 0 0 0)) (when_last 0 ∷ []) (1 ∷ []))
    ∷ row (Request 7) (run_case (device_in 21599 1199) (when_last 0 ∷ []) (1 ∷ []))
    ∷ row (Request 7) (run_case (device_in 2678400 1) (when_last 0 ∷ []) (1 ∷ []))
    ∷ row (Request 7) (run_case (device_in 2700000 0) (when_last 0 ∷ []) (1 ∷ []))
    ∷ row (Request 7) (run_case (device_of 3 1000 (an_output 1000 0 0)) (when_last 0 ∷ []) (1 ∷ []))
    ∷ row (Request 7) (run_case (device_of 4 1 (an_output 100000 0 0)) (when_last 0 ∷ []) (1 ∷ []))
    ∷ row (Request 7) (run_case (device_of 0 100 (an_output 1 0 0)) (when_last 0 ∷ []) (1 ∷ []))
    -- a step aside: asked between the steps of two sessions it changes nothing, and the second commit is stale as ever
    ∷ row (Request 7) (run_case factory_device
    (Turn (Open 2 1111) ∷ Call 1 Begin ∷ Call 1 (Read 16) ∷ Call 2 Begin ∷ when_last 32 ∷ Call 2 (Write 16 (Whole (pos 9900))) ∷ when_last 11 ∷ Commit 2 ∷ when_last 32
    ∷ Call 1 (Write 14 (Whole (pos 100500))) ∷ when_last 0 ∷ Commit 1 ∷ [])
    (replicate 11 0 ++ (11 ∷ [])))
    ∷ []

-- the checker computes each part by itself (proofs/Table.antt)
unfoldable pub table : List Row
table = rows_to_two ++ (rows_of_three ++ (rows_to_six ++ rows_of_seven))
