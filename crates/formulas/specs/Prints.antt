-- 02, T-04: texts, and what the print of the whole answers after the edit, as sessions of the reference model; one computed check over the list.
-- Assumes nothing.
use Rattle.std.specs.Prelude.{◌≡◌, refl, List, [], ◌∷◌, map, ℕ, replicate}
use Prim.Native.String.{String}
use Rattle.language.specs.Names
use Rattle.language.specs.Names.{bytes}
use Rattle.model.specs.Model.{Print, Answer, edited, opened, not_yet, finished, refused, printed, Outcome, start}
use Rattle.formulas.specs.Formulas.{formulas}
use Rattle.formulas.specs.Computed.{run}
use Rattle.formulas.specs.Samples.{recording, lent, edit_of}

-- the whole's number
abbrev whole_of : Answer formulas → ℕ
whole_of (edited whole parts added numbers) = whole
whole_of (refused n at) = 0
whole_of opened = 0
whole_of (not_yet k) = 0
whole_of (finished k v) = 0
whole_of (printed t) = 0

-- the entry that is printed is taken from the edit's answer
unfoldable pub shown_at : (Answer formulas → ℕ) → String → Answer formulas
unfolding run Names.bytes
shown_at entry text =
    let e : Outcome formulas = run (start formulas recording) (edit_of (bytes text)) in
    (run e.state (lent (Print (entry e.answer) (replicate 1024 0)))).answer

unfoldable pub shown_back : String → Answer formulas
unfolding shown_at
shown_back text = shown_at whole_of text

unfoldable pub bytes_of : String → Answer formulas
unfolding Names.bytes
bytes_of text = printed (bytes text)

abbrev pub shown : List (String × String)
shown =
    -- lets are eliminated; blanks, brackets and leading zeros that a text does not need go
    ("let x = 2 in data.skip(1).take(x)", "data.skip(1).take(2)")
    ∷ ("( data ) . skip( 007 ) .take(-02)", "data.skip(7).take(-2)")
    ∷ ("let w = data.skip(1) in w.sum().add(w.count())", "data.skip(1).sum().add(data.skip(1).count())")
    ∷ ("-7.div(2)", "-7.div(2)")
    ∷ ("1.add(-1)", "1.add(-1)")
    ∷ ("\\a->-1", "\\a -> -1")
    ∷ ("data.sumBy(\\p->data.countWhere(\\q->(q).gt(p)))", "data.sumBy(\\p -> data.countWhere(\\q -> q.gt(p)))")
    ∷ ("let f = \\a -> a in f.count()", "(\\a -> a).count()")
    -- an inner lambda of the outer one's name
    ∷ ("\\a -> let x = 1 in data.sumBy(\\a -> a.add(x))", "\\a -> data.sumBy(\\a -> a.add(1))")
    ∷ []

pub shown-back : map (λ (x : String × String). shown_back x.0) shown ≡ map (λ (x : String × String). bytes_of x.1) shown
unfolding shown_back bytes_of
shown-back = refl

-- read by itself, the text has another form: the unbound b would be the lambda's
pub captured : shown_back "let y = b in \\b -> y" ≡ refused 16 0
unfolding shown_back
captured = refl

-- 02, T-05: the function is written outside any lambda, and would be read as one inside another
pub moved : shown_back "let f = \\a -> a in \\a -> data.sumBy(f)" ≡ refused 16 0
unfolding shown_back
moved = refl

-- the inner lambda would hide the outer one, whose variable is meant
pub hidden : shown_back "\\a -> let x = a in \\a -> x" ≡ refused 16 0
unfolding shown_back
hidden = refl

-- a function from inside another lambda, printed by itself, would be read as one outside any
pub alone : shown_at (λ _. 2) "\\b -> data.sumBy(\\a -> a)" ≡ refused 16 0
unfolding shown_at
alone = refl
