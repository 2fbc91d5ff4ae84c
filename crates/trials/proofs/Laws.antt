-- What the code does over the lent lines is the command's step; and lending more lines than there are is lending all of them.
-- Assumes nothing.
use Rattle.std.proofs.Common.{◌≡◌, ℕ, List, length, min, take, drop}
use Rattle.std.proofs.lemmas.List.{take_min, drop_min}
use Rattle.books.specs.declared.ArchiveLine.{ArchiveLine}
use Rattle.books.specs.declared.LogLine.{LogLine}
use Rattle.books.specs.declared.AuditLine.{AuditLine}
use Rattle.state.specs.declared.State.{State}
use Rattle.state.specs.State.{whole_b}
use Rattle.commands.specs.declared.Command.{Command}
use Rattle.device.specs.Plan.{world_of, seen_of, turn_of}
use Rattle.device.proofs.Ways.{turn_is_step}
use Rattle.trials.specs.Lend.{with_rest, lent_of}

pub lent_back : (s : State) (c : Command) (archive : List ArchiveLine) (log : List LogLine) (audit : List AuditLine) (m e h : ℕ)
    → with_rest (turn_of (whole_b s) s c (seen_of (whole_b s) s c (take (min m (length archive)) archive) (take (min e (length log)) log) (take (min h (length audit)) audit)) (take (min m (length archive)) archive) (take (min e (length log)) log) (take (min h (length audit)) audit))
    (drop (min m (length archive)) archive) (drop (min e (length log)) log) (drop (min h (length audit)) audit)
    ≡ lent_of s c archive log audit m e h
unfolding lent_of turn_of seen_of
lent_back s c archive log audit m e h =
    rw (take_min m archive, take_min e log, take_min h audit, drop_min m archive, drop_min e log, drop_min h audit, turn_is_step c (world_of s (take m archive) (take e log) (take h audit)))
