-- The run at `at` is as long as the bytes there go on passing the test. Assumes nothing.
use Rattle.std.proofs.Common.{ap, ◌∙◌, ◌-◌, length, drop, arith, take_all, length-drop}
use Rattle.std.specs.List.{take_while}
use Rattle.lexer.specs.LoopsLaws.{run-over, run_is}
use Rattle.lexer.proofs.tokens.run_end.Goals as goal

pub returns-then-text-at : goal.returns-then-text-at
returns-then-text-at g c = λ p t. run-over _ _ _ c.if-text-at.true

pub returns : goal.returns
returns g c =
    λ p t.
    let rest = take_all (length c.args.text.now - c.args.at) (drop c.args.at c.args.text.now) (omega (arith, length-drop c.args.at c.args.text.now)) in
    run_is _ _ _ _ (c.run_length.ensures.length p t ∙ ap (λ l. length (take_while p l)) rest)
