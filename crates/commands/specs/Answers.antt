-- What is answered to a command, and the device with its three stores. Document 01, "Number on the fault card".
-- Assumes nothing.
use Rattle.std.specs.Prelude.{ℕ, cond, List, [], eqb, Result, Ok, Err}
use Rattle.books.specs.declared.ArchiveLine.{ArchiveLine}
use Rattle.books.specs.declared.LogLine.{LogLine}
use Rattle.books.specs.declared.AuditLine.{AuditLine}
use Rattle.state.specs.declared.State.{State}
use Rattle.state.specs.declared.faults.Fault.{Fault}
use Rattle.state.specs.Card.{number_of}
use Rattle.commands.specs.declared.Given.{Given}
use Rattle.commands.specs.declared.Given.TheVariants as given
use Rattle.commands.specs.declared.Reply.{Reply}
use Rattle.commands.specs.declared.Answer.{Answer}

-- a number alone
abbrev pub plain : ℕ → Reply
plain n = record { number = n; given = given.Nothing }

-- a refusal returns its number and no value
abbrev pub giving : ℕ → Given → Reply
giving n v = record { number = n; given = cond (eqb n 0) v given.Nothing }

-- what was found to give, or the refusal
abbrev pub reply_of : Result Given Fault → Reply
reply_of (Ok v) = giving 0 v
reply_of (Err fault) = plain (number_of fault)

-- an answer that gives no value; a refusal leaves the state as it was
abbrev pub answered : ℕ → State → State → Answer
answered number before after = record { reply = plain number; state = cond (eqb number 0) after before }

-- a device with its three stores, which nobody else writes
pub record World : Type 0 where
  pub state : State
  pub archive : List ArchiveLine
  pub log : List LogLine
  pub audit : List AuditLine

-- an answer, and the stores after it; a store that the command is not lent is an empty list here
pub record Outcome : Type 0 where
  pub answer : Answer
  pub archive : List ArchiveLine
  pub log : List LogLine
  pub audit : List AuditLine

abbrev pub with_log : Answer → List LogLine → Outcome
with_log a log = record { answer = a; archive = []; log = log; audit = [] }

abbrev pub with_audit : Answer → List AuditLine → Outcome
with_audit a audit = record { answer = a; archive = []; log = []; audit = audit }

abbrev pub with_both : Answer → List ArchiveLine → List LogLine → Outcome
with_both a archive log = record { answer = a; archive = archive; log = log; audit = [] }
