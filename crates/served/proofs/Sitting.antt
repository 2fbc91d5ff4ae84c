-- Lines one after another are runs one after another. By induction on the number of lines.
-- Assumes nothing.
use Prim.Native.Nat.{suc}
use mathlib.Core.Path.{◌≡◌, refl, sym, ap, ◌∙◌}
use mathlib.Core.List.{List, [], ◌∷◌, ◌++◌}
use lib.ListN.{length}
use Rattle.commands.specs.declared.Command.{Command}
use Rattle.commands.specs.declared.Entry.{Entry}
use Rattle.commands.specs.declared.Entry.TheVariants as entry
use Rattle.commands.specs.declared.Echo.{Echo}
use Rattle.commands.specs.declared.Echo.TheVariants as echo
use Rattle.panel.specs.Panel.{start_of}
use Rattle.commands.specs.Answers.{World}
use Rattle.steps.specs.Step.{with_state, step}
use Rattle.desk.specs.Desk.{entered}
use Rattle.served.specs.Served.{answered, end_of, Part, at_first, parts, first_run, next, last_of, answers_of, last_run, in_place, said_to}

-- each line in its turn, as the desk takes it: what is said, and the world at the end
unfoldable pub sitting : List Entry → World → List Echo × World
sitting [] w = ([], w)
sitting (e ∷ es) w = ((entered e w).1 ∷ (sitting es (entered e w).0).0, (sitting es (entered e w).0).1)

-- ---- a command more at the head of the first run

answers_on : (c : Command) (cs : List Command) (w : World) (ps : List Part)
    → answers_of (record { from = w; steps = c ∷ cs }) ps ≡ (step c w).1 ∷ answers_of (record { from = (step c w).0; steps = cs }) ps
unfolding answers_of answered next end_of
answers_on c cs w [] = refl
answers_on c cs w (p ∷ ps) = refl

end_on : (c : Command) (cs : List Command) (w : World) (ps : List Part)
    → end_of (last_of (record { from = w; steps = c ∷ cs }) ps) ≡ end_of (last_of (record { from = (step c w).0; steps = cs }) ps)
unfolding last_of next end_of
end_on c cs w [] = refl
end_on c cs w (p ∷ ps) = refl

-- ---- all lines

said_is : (es : List Entry) (w : World) → (sitting es w).0 ≡ said_to es w
unfolding sitting entered said_to first_run at_first parts in_place answers_of answered next end_of
said_is [] w = refl
said_is (entry.Nothing ∷ es) w = ap (λ (l : List Echo). echo.Nothing ∷ l) (said_is es w)
said_is (entry.Unknown ∷ es) w = ap (λ (l : List Echo). echo.Unknown ∷ l) (said_is es w)
said_is (entry.Start time supcode custcode ∷ es) w =
    ap (λ (l : List Echo). echo.Said (start_of time supcode custcode).reply ∷ l) (said_is es (with_state w (start_of time supcode custcode).state))
said_is (entry.Put c ∷ es) w =
    ap (λ (l : List Echo). echo.Said (step c w).1 ∷ l) (said_is es (step c w).0)
    ∙ ap (in_place (entry.Put c ∷ es)) (sym (answers_on c (at_first es) w (parts es)))
said_is (entry.Parse p ∷ es) w = ap (λ (l : List Echo). echo.Parse p ∷ l) (said_is es w)

end_is : (es : List Entry) (w : World) → (sitting es w).1 ≡ end_of (last_run es w)
unfolding sitting entered last_run first_run at_first parts last_of next end_of
end_is [] w = refl
end_is (entry.Nothing ∷ es) w = end_is es w
end_is (entry.Unknown ∷ es) w = end_is es w
end_is (entry.Start time supcode custcode ∷ es) w = end_is es (with_state w (start_of time supcode custcode).state)
end_is (entry.Put c ∷ es) w = end_is es (step c w).0 ∙ sym (end_on c (at_first es) w (parts es))
end_is (entry.Parse p ∷ es) w = end_is es w

-- LINES ONE AFTER ANOTHER ARE RUNS ONE AFTER ANOTHER
pub sitting_runs : (es : List Entry) (w : World) → sitting es w ≡ (said_to es w, end_of (last_run es w))
sitting_runs es w = λ i. (said_is es w i, end_is es w i)

-- ---- lines and then more lines

pub sitting_length : (es : List Entry) (w : World) → length (sitting es w).0 ≡ length es
unfolding sitting
sitting_length [] w = refl
sitting_length (e ∷ es) w = ap suc (sitting_length es (entered e w).0)

pub sitting_join : (es fs : List Entry) (w : World)
    → sitting (es ++ fs) w ≡ ((sitting es w).0 ++ (sitting fs (sitting es w).1).0, (sitting fs (sitting es w).1).1)
unfolding sitting
sitting_join [] fs w = refl
sitting_join (e ∷ es) fs w = ap (λ (p : List Echo × World). ((entered e w).1 ∷ p.0, p.1)) (sitting_join es fs (entered e w).0)

-- what is said to lines and then to more of them, and the world at the end
pub said_join : (es fs : List Entry) (w : World) → said_to (es ++ fs) w ≡ said_to es w ++ said_to fs (end_of (last_run es w))
said_join es fs w =
    sym (said_is (es ++ fs) w) ∙ ap (λ (p : List Echo × World). p.0) (sitting_join es fs w) ∙ rw (said_is es w, end_is es w, said_is fs (end_of (last_run es w)))

pub end_join : (es fs : List Entry) (w : World) → end_of (last_run (es ++ fs) w) ≡ end_of (last_run fs (end_of (last_run es w)))
end_join es fs w =
    sym (end_is (es ++ fs) w) ∙ ap (λ (p : List Echo × World). p.1) (sitting_join es fs w) ∙ rw (end_is es w, end_is fs (end_of (last_run es w)))

pub said_length : (es : List Entry) (w : World) → length (said_to es w) ≡ length es
said_length es w = rw (← said_is es w) (sitting_length es w)

-- what is said to a command and to the lines after it
pub said_put : (c : Command) (es : List Entry) (w : World) → said_to (entry.Put c ∷ es) w ≡ echo.Said (step c w).1 ∷ said_to es (step c w).0
unfolding sitting entered
said_put c es w = sym (said_is (entry.Put c ∷ es) w) ∙ ap (λ (l : List Echo). echo.Said (step c w).1 ∷ l) (said_is es (step c w).0)
