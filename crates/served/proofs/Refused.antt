-- A command among the lines of blocks, put to any desk: its reply stands at its place, is a refusal exactly when its rule says, and a refusal changes
-- nothing. `met` is the world that the command met: the one after the lines before it.
-- Assumes nothing.
use Prim.Native.Nat.{ℕ, ◌<◌}
use mathlib.Core.Path.{◌≡◌, refl, sym, ap, ◌∙◌}
use mathlib.Core.Logic.{◌↔◌}
use mathlib.Core.List.{List, [], ◌∷◌, ◌++◌}
use lib.ListN.{length, get_or}
use lib.Seq.{get_or-append_seam}
use Rattle.commands.specs.declared.Command.{Command}
use Rattle.commands.specs.declared.Reply.{Reply}
use Rattle.commands.specs.declared.Entry.{Entry}
use Rattle.commands.specs.declared.Entry.TheVariants as entry
use Rattle.commands.specs.declared.Echo.{Echo}
use Rattle.commands.specs.declared.Echo.TheVariants as echo
use Rattle.commands.specs.Answers.{World, plain}
use Rattle.steps.specs.Step.{step}
use Rattle.desk.specs.declared.Desk.{Desk}
use Rattle.desk.specs.Desk.{no_response, world_in}
use Rattle.runs.specs.Run.{number_of}
use Rattle.runs.specs.Exactly as exact
use Rattle.runs.specs.Rows.{rows_of, refused_by}
use Rattle.runs.proofs.Effects.{refused_exactly, refused_leaves, refused_says}
use Rattle.served.specs.Served.{end_of, at_first, parts, first_run, last_of, last_run, said_to, Block, lines_of, served_all}
use Rattle.served.proofs.Sitting.{said_length, said_put, said_join, end_join}
use Rattle.served.proofs.Served.{block_by_block}

same_reply : (r q : Reply) → echo.Said r ≡ echo.Said q → r ≡ q
same_reply r q e = cc

end_put : (c : Command) (w : World) → end_of (last_run (entry.Put c ∷ []) w) ≡ (step c w).0
unfolding end_of last_run last_of first_run at_first parts
end_put c w = refl

module _ (d : Desk) (bs : List Block) (before after : List Entry) (c : Command) (here : lines_of bs ≡ before ++ (entry.Put c ∷ after)) where
  abbrev met : World
  met = end_of (last_run before (world_in d))

  -- what was put out at its place
  abbrev shown : Echo
  shown = get_or (served_all bs d).0 (length before) no_response

  -- THE REPLY TO A COMMAND STANDS AT ITS PLACE, and is that of its step
  pub at_its_place : shown ≡ echo.Said (step c met).1
  at_its_place =
      let w : World = world_in d in
      let l : List Echo = said_to before w in
      let n : length before ≡ length l = sym (said_length before w) in
      rw (block_by_block bs d, here, said_join before (entry.Put c ∷ after) w, said_put c after met, n)
      (get_or-append_seam l (echo.Said (step c met).1) (said_to after (step c met).0) no_response)

  reply_is : (r : Reply) → shown ≡ echo.Said r → r ≡ (step c met).1
  reply_is r e = same_reply r (step c met).1 (sym e ∙ at_its_place)

  -- IT IS REFUSED EXACTLY WHEN ITS RULE SAYS
  pub served_refused : (r : Reply) → shown ≡ echo.Said r → (n : ℕ) → 0 < n → (number_of r ≡ n) ↔ exact.Given n (rows_of c met)
  served_refused r e n l = rw (reply_is r e) (refused_exactly c met n l)

  -- A REFUSAL GIVES ITS NUMBER AND NO VALUE
  pub served_says : (r : Reply) → shown ≡ echo.Said r → (n : ℕ) → 0 < n → number_of r ≡ n → r ≡ plain n
  served_says r e n l q = let p = reply_is r e in p ∙ refused_says c met n l (ap number_of (sym p) ∙ q)

  -- AND LEAVES ALL AS IT WAS, but that a commit refused by 10, 11 or 12 ends its session
  pub served_leaves : (r : Reply) → shown ≡ echo.Said r → (n : ℕ) → 0 < n → number_of r ≡ n
      → end_of (last_run (before ++ (entry.Put c ∷ [])) (world_in d)) ≡ refused_by c met n
  served_leaves r e n l q =
      end_join before (entry.Put c ∷ []) (world_in d) ∙ end_put c met ∙ refused_leaves c met n l (ap number_of (sym (reply_is r e)) ∙ q)
