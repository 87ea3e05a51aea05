-- 01, "Sample previews": the starred samples, as sessions of the reference model, and one computed check over the list; and likewise samples
-- of hiding, and of 02, T-01, T-02, T-05 and T-06.
-- Assumes nothing.
use Rattle.std.specs.Prelude.{◌≡◌, refl, true, List, [], ◌∷◌, map, ℕ, ℤ, pos, negsuc, replicate}
use Rattle.language.specs.Limits.{text_parts}
use Rattle.language.specs.Names.{bytes}
use Rattle.meaning.specs.Evaluation.{Shown, a_number, a_window, a_function, a_delay, a_reason}
use Rattle.model.specs.Model.{State, Request, Edit, Preview, Call, Answer, edited, finished, Outcome, start}
use Rattle.formulas.specs.Formulas.{formulas}
use Rattle.formulas.specs.Computed.{run}

-- a text, what the edit answers, and what the preview of the whole with allowance 512 answers
pub record Sample : Type 0 where
  pub text : List ℕ
  pub whole : ℕ
  pub parts : ℕ
  pub new : ℕ
  pub places : List ℕ
  pub worked : ℕ
  pub shown : Shown

abbrev pub recording : List ℤ
recording = pos 140 ∷ pos 152 ∷ pos 160 ∷ pos 148 ∷ pos 155 ∷ []

abbrev pub lent : Request formulas → Call formulas
lent q = record { enough = true; request = q }

abbrev pub edit_of : List ℕ → Call formulas
edit_of text = lent (Edit (replicate text_parts 0) text)

-- the answers to a session's samples, one after the other
unfoldable pub heard : State formulas → List Sample → List (Answer formulas)
heard s [] = []
heard s (x ∷ xs) =
    let e : Outcome formulas = run s (edit_of x.text) in
    let p : Outcome formulas = run e.state (lent (Preview x.whole 512)) in
    e.answer ∷ p.answer ∷ heard p.state xs

unfoldable pub expected : List Sample → List (Answer formulas)
expected [] = []
expected (x ∷ xs) = edited x.whole x.parts x.new x.places ∷ finished x.worked x.shown ∷ expected xs

-- each list of samples is a session of its own after an opening
abbrev pub starred : List (List Sample)
starred =
    (record { text = bytes "let x = 2 in data.skip(1).take(x)"; whole = 4; parts = 7; new = 5; places = 4 ∷ 0 ∷ 1 ∷ 3 ∷ 2 ∷ 4 ∷ 0 ∷ []; worked = 2; shown = a_window 1 2 }
    ∷ record { text = bytes "let x = 3 in data.skip(1).take(x)"; whole = 6; parts = 7; new = 2; places = 6 ∷ 5 ∷ 1 ∷ 3 ∷ 2 ∷ 6 ∷ 5 ∷ []; worked = 1; shown = a_window 1 3 } ∷ [])
    ∷ (record { text = bytes "data.countWhere(\\b -> b.gt(150))"; whole = 5; parts = 6; new = 6; places = 0 ∷ 5 ∷ 4 ∷ 1 ∷ 3 ∷ 2 ∷ []; worked = 3; shown = a_number (pos 3) } ∷ [])
    ∷ (record { text = bytes "data.sum()"; whole = 1; parts = 2; new = 2; places = 0 ∷ 1 ∷ []; worked = 1; shown = a_number (pos 755) } ∷ [])
    ∷ (record {
      text = bytes "data.sumBy(\\p -> data.countWhere(\\q -> q.gt(p)))";
      whole = 7;
      parts = 9;
      new = 8;
      places = 0 ∷ 7 ∷ 6 ∷ 0 ∷ 5 ∷ 4 ∷ 1 ∷ 3 ∷ 2 ∷ [];
      worked = 5;
      shown = a_number (pos 10);
    } ∷ [])
    ∷ (record { text = bytes "-7.div(2)"; whole = 2; parts = 3; new = 3; places = 0 ∷ 2 ∷ 1 ∷ []; worked = 1; shown = a_number (negsuc 3) } ∷ [])
    ∷ (record { text = bytes "-2147483648.div(-1)"; whole = 2; parts = 3; new = 3; places = 0 ∷ 2 ∷ 1 ∷ []; worked = 1; shown = a_reason 4 } ∷ [])
    ∷ (record { text = bytes "let u = 1.div(0) in 6"; whole = 3; parts = 5; new = 4; places = 3 ∷ 0 ∷ 2 ∷ 1 ∷ 3 ∷ []; worked = 0; shown = a_number (pos 6) } ∷ [])
    ∷ (record { text = bytes "let y = b in \\b -> y"; whole = 1; parts = 4; new = 2; places = 1 ∷ 0 ∷ 1 ∷ 0 ∷ []; worked = 1; shown = a_reason 1 } ∷ [])
    ∷ (record { text = bytes "data.take(0).countWhere(\\b -> b.div(0))"; whole = 6; parts = 8; new = 7; places = 0 ∷ 2 ∷ 1 ∷ 6 ∷ 5 ∷ 3 ∷ 4 ∷ 1 ∷ []; worked = 4; shown = a_number (pos 0) } ∷ [])
    ∷ (record { text = bytes "data.take(0).countWhere(\\b -> 1.div(0))"; whole = 6; parts = 8; new = 7; places = 0 ∷ 2 ∷ 1 ∷ 6 ∷ 5 ∷ 3 ∷ 4 ∷ 1 ∷ []; worked = 4; shown = a_reason 3 } ∷ [])
    ∷ []

pub samples-hold : map (heard (start formulas recording)) starred ≡ map expected starred
unfolding heard expected run
samples-hold = refl

-- beside the starred ones: an inner let or lambda hides an outer let, and a let's name is not in scope in its own value
abbrev pub hiding : List (List Sample)
hiding =
    (record { text = bytes "let x = 1 in let x = 2 in x"; whole = 1; parts = 5; new = 2; places = 1 ∷ 0 ∷ 1 ∷ 1 ∷ 1 ∷ []; worked = 0; shown = a_number (pos 2) } ∷ [])
    ∷ (record { text = bytes "let b = 1 in \\b -> b"; whole = 2; parts = 4; new = 3; places = 2 ∷ 0 ∷ 2 ∷ 1 ∷ []; worked = 1; shown = a_function 98 } ∷ [])
    ∷ (record { text = bytes "let x = x in x"; whole = 0; parts = 3; new = 1; places = 0 ∷ 0 ∷ 0 ∷ []; worked = 0; shown = a_reason 1 } ∷ [])
    ∷ []

pub hiding-holds : map (heard (start formulas recording)) hiding ≡ map expected hiding
unfolding heard expected run
hiding-holds = refl

-- 02, T-02: division goes down, whatever the signs
abbrev pub divisions : List (List Sample)
divisions =
    (record { text = bytes "7.div(-2)"; whole = 2; parts = 3; new = 3; places = 0 ∷ 2 ∷ 1 ∷ []; worked = 1; shown = a_number (negsuc 3) } ∷ [])
    ∷ (record { text = bytes "-7.div(-2)"; whole = 2; parts = 3; new = 3; places = 0 ∷ 2 ∷ 1 ∷ []; worked = 1; shown = a_number (pos 3) } ∷ [])
    ∷ (record { text = bytes "-6.div(3)"; whole = 2; parts = 3; new = 3; places = 0 ∷ 2 ∷ 1 ∷ []; worked = 1; shown = a_number (negsuc 1) } ∷ [])
    ∷ (record { text = bytes "7.div(0)"; whole = 2; parts = 3; new = 3; places = 0 ∷ 2 ∷ 1 ∷ []; worked = 1; shown = a_reason 3 } ∷ [])
    ∷ []

pub divisions-hold : map (heard (start formulas recording)) divisions ≡ map expected divisions
unfolding heard expected run
divisions-hold = refl

-- 02, T-05: a lambda has its level, by the place where it is written. A function written inside another lambda is not the entry of its twin outside
-- any; a let's value is, wherever its name is used; an inner lambda hides an outer one of its name, and a let between them keeps the outer variable.
abbrev pub levels : List (List Sample)
levels =
    (record { text = bytes "data.sumBy(\\a -> a)"; whole = 3; parts = 4; new = 4; places = 0 ∷ 3 ∷ 2 ∷ 1 ∷ []; worked = 2; shown = a_number (pos 755) }
    ∷ record { text = bytes "\\b -> data.sumBy(\\a -> a)"; whole = 7; parts = 5; new = 4; places = 7 ∷ 0 ∷ 6 ∷ 5 ∷ 4 ∷ []; worked = 3; shown = a_function 98 } ∷ [])
    ∷ (record { text = bytes "let f = \\a -> a in \\b -> data.sumBy(f)"; whole = 4; parts = 7; new = 5; places = 4 ∷ 1 ∷ 0 ∷ 4 ∷ 2 ∷ 3 ∷ 1 ∷ []; worked = 3; shown = a_function 98 }
    ∷ record { text = bytes "data.sumBy(\\a -> a)"; whole = 3; parts = 4; new = 0; places = 2 ∷ 3 ∷ 1 ∷ 0 ∷ []; worked = 0; shown = a_number (pos 755) } ∷ [])
    ∷ (record { text = bytes "\\a -> \\a -> a"; whole = 2; parts = 3; new = 3; places = 2 ∷ 1 ∷ 0 ∷ []; worked = 2; shown = a_function 97 } ∷ [])
    ∷ (record {
      text = bytes "data.sumBy(\\a -> let x = a in data.countWhere(\\a -> a.gt(x)))";
      whole = 7;
      parts = 11;
      new = 8;
      places = 0 ∷ 7 ∷ 6 ∷ 5 ∷ 1 ∷ 0 ∷ 5 ∷ 4 ∷ 2 ∷ 3 ∷ 1 ∷ [];
      worked = 5;
      shown = a_number (pos 10);
    } ∷ [])
    ∷ []

pub levels-hold : map (heard (start formulas recording)) levels ≡ map expected levels
unfolding heard expected run
levels-hold = refl

-- a part that waits for two variables of one spelling names it twice
unfoldable pub between : List (Answer formulas)
unfolding run
between =
    let e : Outcome formulas = run (start formulas recording) (edit_of (bytes "\\a -> let x = a in \\a -> x.add(a)")) in
    e.answer ∷ (run e.state (lent (Preview 2 512))).answer ∷ []

pub named-twice : between ≡ edited 4 7 5 (4 ∷ 3 ∷ 0 ∷ 3 ∷ 0 ∷ 2 ∷ 1 ∷ []) ∷ finished 1 (a_delay (97 ∷ 97 ∷ [])) ∷ []
unfolding between
named-twice = refl

-- 02, T-06: counts from the end; one more than there are is as many for skip and take, and none for at
abbrev pub from_the_end : List (List Sample)
from_the_end =
    (record { text = bytes "data.skip(-2)"; whole = 2; parts = 3; new = 3; places = 0 ∷ 2 ∷ 1 ∷ []; worked = 1; shown = a_window 3 2 }
    ∷ record { text = bytes "data.take(-2)"; whole = 3; parts = 3; new = 1; places = 0 ∷ 3 ∷ 1 ∷ []; worked = 1; shown = a_window 0 3 }
    ∷ record { text = bytes "data.at(-2)"; whole = 4; parts = 3; new = 1; places = 0 ∷ 4 ∷ 1 ∷ []; worked = 1; shown = a_number (pos 148) } ∷ [])
    ∷ (record { text = bytes "data.skip(-6)"; whole = 2; parts = 3; new = 3; places = 0 ∷ 2 ∷ 1 ∷ []; worked = 1; shown = a_window 0 5 }
    ∷ record { text = bytes "data.take(-6)"; whole = 3; parts = 3; new = 1; places = 0 ∷ 3 ∷ 1 ∷ []; worked = 1; shown = a_window 0 0 }
    ∷ record { text = bytes "data.at(-6)"; whole = 4; parts = 3; new = 1; places = 0 ∷ 4 ∷ 1 ∷ []; worked = 1; shown = a_reason 5 } ∷ [])
    ∷ (record { text = bytes "data.skip(-2147483648)"; whole = 2; parts = 3; new = 3; places = 0 ∷ 2 ∷ 1 ∷ []; worked = 1; shown = a_window 0 5 }
    ∷ record { text = bytes "data.at(-2147483648)"; whole = 3; parts = 3; new = 1; places = 0 ∷ 3 ∷ 1 ∷ []; worked = 1; shown = a_reason 5 } ∷ [])
    ∷ (record { text = bytes "data.skip(1).take(-1).at(-3)"; whole = 6; parts = 7; new = 7; places = 0 ∷ 2 ∷ 1 ∷ 4 ∷ 3 ∷ 6 ∷ 5 ∷ []; worked = 3; shown = a_number (pos 152) } ∷ [])
    ∷ []

pub from-the-end-hold : map (heard (start formulas recording)) from_the_end ≡ map expected from_the_end
unfolding heard expected run
from-the-end-hold = refl

-- 02, T-01: the best stretch of a window, its sum and where it begins
abbrev pub stretches : List (List Sample)
stretches =
    (record { text = bytes "data.bestSum(2)"; whole = 2; parts = 3; new = 3; places = 0 ∷ 2 ∷ 1 ∷ []; worked = 1; shown = a_number (pos 312) }
    ∷ record { text = bytes "data.bestAt(2)"; whole = 3; parts = 3; new = 1; places = 0 ∷ 3 ∷ 1 ∷ []; worked = 1; shown = a_number (pos 1) }
    ∷ record { text = bytes "data.bestSum(5)"; whole = 5; parts = 3; new = 2; places = 0 ∷ 5 ∷ 4 ∷ []; worked = 1; shown = a_number (pos 755) }
    ∷ record { text = bytes "data.bestAt(5)"; whole = 6; parts = 3; new = 1; places = 0 ∷ 6 ∷ 4 ∷ []; worked = 1; shown = a_number (pos 0) } ∷ [])
    ∷ (record { text = bytes "data.skip(3).bestAt(1)"; whole = 4; parts = 5; new = 5; places = 0 ∷ 2 ∷ 1 ∷ 4 ∷ 3 ∷ []; worked = 2; shown = a_number (pos 1) } ∷ [])
    ∷ (record { text = bytes "data.bestSum(0)"; whole = 2; parts = 3; new = 3; places = 0 ∷ 2 ∷ 1 ∷ []; worked = 1; shown = a_reason 5 } ∷ [])
    ∷ (record { text = bytes "data.bestAt(-1)"; whole = 2; parts = 3; new = 3; places = 0 ∷ 2 ∷ 1 ∷ []; worked = 1; shown = a_reason 5 } ∷ [])
    ∷ (record { text = bytes "data.bestSum(6)"; whole = 2; parts = 3; new = 3; places = 0 ∷ 2 ∷ 1 ∷ []; worked = 1; shown = a_reason 5 } ∷ [])
    ∷ (record {
      text = bytes "data.sumBy(\\w -> data.take(3).bestSum(w.sub(w).add(2)))";
      whole = 9;
      parts = 12;
      new = 10;
      places = 0 ∷ 9 ∷ 8 ∷ 0 ∷ 2 ∷ 1 ∷ 7 ∷ 3 ∷ 4 ∷ 3 ∷ 6 ∷ 5 ∷ [];
      worked = 6;
      shown = a_number (pos 1560);
    } ∷ [])
    ∷ []

pub stretches-hold : map (heard (start formulas recording)) stretches ≡ map expected stretches
unfolding heard expected run
stretches-hold = refl
