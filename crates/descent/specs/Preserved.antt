-- What reading keeps, for every fuel, state and array: the arrays' lengths, the scope's cells below the depth, and how the counts move.
-- Where nothing is refused, tokens are passed, and there are no more new records than new parts. Assumes nothing.
use Rattle.std.specs.Prelude.{◌≡◌, refl, Bool, true, List, ℕ, zero, suc, ◌+◌, ◌*◌, ◌≤◌, ◌<◌, max, eqb, length, get_or, set}
use Rattle.std.proofs.Common.{ap, ◌∙◌, arith, lit<, length-set, get_or-set_other, eqb-true}
use Rattle.std.proofs.Math.Bool.{false}
use Rattle.std.proofs.lemmas.Bool.{eqb-false}
use Rattle.language.specs.Limits.{text_parts}
use Rattle.language.specs.Names.{data_word}
use Rattle.grammar.specs.Tokens.{Located}
use Rattle.grammar.proofs.TokensLaws.{by-test}
use Rattle.layout.specs.Memory.{Node}
use Rattle.descent.specs.Cursor.{Cursor, in_kind, dot_kind, shut_kind, word_kind, open_kind, let_kind, lambda_kind, comma_kind, digits_kind}
use Rattle.descent.specs.Cursor.{head_word, head_value, behind_head, is_at}
use Rattle.descent.specs.Cursor.{refuse}
use Rattle.descent.specs.Descent.{State, moved, then, counted, rooted, put, link, mark, enter, put_bound, put_scoped, put_name, Call, Mode, Reader}
use Rattle.descent.specs.Descent.{in_expression, in_calls, in_arguments, in_more, read_name, read_number, read_shut, read_let, read_lambda, read_bracket}
use Rattle.descent.specs.Descent.{read_expression, read_calls, read_arguments, read_more, step, run, ended}
use Rattle.descent.specs.Moves.{Moved, behind-some, moved-judge, moved-name-part, moved-number-part, moved-pass, moved-need, moved-let, moved-lambda, moved_call}

-- depth d; where nothing is refused p tokens are passed, and with g parts more there were at most as many new records as new parts and o
pub record Preserved (d p g o : ℕ) (s s' : State) : Type 0 where
  pub records : length s'.records ≡ length s.records
  pub places : length s'.places ≡ length s.places
  pub scope : length s'.scope ≡ length s.scope
  pub below : (i : ℕ) → i < 2 * d → get_or s'.scope i 0 ≡ get_or s.scope i 0
  pub parts : s.cursor.parts ≤ s'.cursor.parts
  pub most : s'.cursor.parts ≤ max s.cursor.parts text_parts
  pub count : s.cursor.count ≤ s'.cursor.count
  pub rest : length s'.cursor.rest ≤ length s.cursor.rest
  pub went : s'.cursor.number ≡ 0 →
      (length s'.cursor.rest + p ≤ length s.cursor.rest) × (s'.cursor.count + s.cursor.parts + g ≤ s.cursor.count + s'.cursor.parts + o)

kept_less : (d p g o D P G O : ℕ) (s s' : State) → D ≤ d → P ≤ p → o + G ≤ O + g → Preserved d p g o s s' → Preserved D P G O s s'
kept_less d p g o D P G O s s' l m n h =
    record {
      records = h.records;
      places = h.places;
      scope = h.scope;
      below = λ i j. h.below i (omega arith);
      parts = h.parts;
      most = h.most;
      count = h.count;
      rest = h.rest;
      went = λ e. let z = h.went e in (omega arith, omega arith);
    }

kept_next : (d p g o p' g' o' : ℕ) (s a b : State) → (b.cursor.number ≡ 0 → a.cursor.number ≡ 0) → Preserved d p g o s a → Preserved d p' g' o' a b
    → Preserved d (p + p') (g + g') (o + o') s b
kept_next d p g o p' g' o' s a b f h k =
    record {
      records = k.records ∙ h.records;
      places = k.places ∙ h.places;
      scope = k.scope ∙ h.scope;
      below = λ i j. k.below i j ∙ h.below i j;
      parts = omega arith;
      most = omega arith;
      count = omega arith;
      rest = omega arith;
      went = λ e. let z = h.went (f e) in let y = k.went e in (omega arith, omega arith);
    }

kept_then : (d p g o p' g' o' : ℕ) (s a : State) (k : State → State) → Preserved d p g o s a → Preserved d p' g' o' a (k a) → Preserved d (p + p') (g + g') (o + o') s (then a k)
unfolding then
kept_then d p g o p' g' o' s a k h j =
    by-test (Preserved d (p + p') (g + g') (o + o') s) (eqb a.cursor.number 0) (λ _. k a) (λ _. a)
    (λ e. kept_next d p g o p' g' o' s a (k a) (λ _. eqb-true a.cursor.number 0 e) h j)
    (λ e. record {
      records = h.records;
      places = h.places;
      scope = h.scope;
      below = h.below;
      parts = h.parts;
      most = h.most;
      count = h.count;
      rest = h.rest;
      went = λ z. absurd (eqb-false a.cursor.number 0 e z);
    })

pub kept-moved : (d p g : ℕ) (s : State) (c : Cursor) → Moved p g s.cursor c → Preserved d p g 0 s (moved s c)
kept-moved d p g s c h =
    record {
      records = refl;
      places = refl;
      scope = refl;
      below = λ i j. refl;
      parts = h.parts;
      most = h.most;
      count = omega (arith, h.count);
      rest = h.rest;
      went = λ e. let z = h.went e in (z.0, omega (arith, h.count));
    }

-- the cursor's tokens and parts stay, and so does the scope
kept-stays : (d o : ℕ) (s s' : State) → length s'.records ≡ length s.records → length s'.places ≡ length s.places → s'.scope ≡ s.scope
    → s'.cursor.parts ≡ s.cursor.parts → s'.cursor.rest ≡ s.cursor.rest → s.cursor.count ≤ s'.cursor.count → s'.cursor.count ≤ s.cursor.count + o → Preserved d 0 0 o s s'
kept-stays d o s s' r p sc e g l m =
    let n = ap (λ (xs : List Located). length xs) g in
    record {
      records = r;
      places = p;
      scope = ap (λ (xs : List ℕ). length xs) sc;
      below = λ i _. ap (λ xs. get_or xs i 0) sc;
      parts = omega arith;
      most = omega arith;
      count = l;
      rest = omega arith;
      went = λ _. (omega arith, omega arith);
    }

kept_put : (d p : ℕ) (n : Node) (s : State) → Preserved d 0 0 1 s (put p n s)
unfolding put counted
kept_put d p n s = kept-stays d 1 s _ (simp length-set) (simp length-set) refl refl refl (omega arith) (omega arith)

kept-link : (d p j : ℕ) (s : State) → Preserved d 0 0 1 s (link p j s)
unfolding link rooted
kept-link d p j s = kept-stays d 1 s _ refl (simp length-set) refl refl refl (omega arith) (omega arith)

kept-mark : (d p : ℕ) (s : State) → Preserved d 0 0 0 s (mark p s)
unfolding mark
kept-mark d p s = kept-stays d 0 s _ refl (simp length-set) refl refl refl (omega arith) (omega arith)

kept_same : (d : ℕ) (s : State) → Preserved d 0 0 0 s s
kept_same d s = kept-stays d 0 s s refl refl refl refl refl (omega arith) (omega arith)

-- behind a binder that is entered at depth d
kept-enter : (d p g o x j : ℕ) (a b : State) → Preserved (suc d) p g o (enter d x j a) b → Preserved d p g o a b
unfolding enter
kept-enter d p g o x j a b h =
    record {
      records = h.records;
      places = h.places;
      scope = h.scope ∙ simp length-set;
      below = λ i l. h.below i (omega arith) ∙ get_or-set_other (set a.scope (2 * d) x) (2 * d + 1) i j 0 (λ e. omega arith) ∙ get_or-set_other a.scope (2 * d) i x 0 (λ e. omega arith);
      parts = h.parts;
      most = h.most;
      count = h.count;
      rest = h.rest;
      went = h.went;
    }

kept-name : (d p x depth : ℕ) (s : State) → Preserved d 0 0 1 s (put_name p x depth s)
unfolding put_name put_scoped put_bound data_word
kept-name d p x depth s =
    by-test (Preserved d 0 0 1 s) _ _ _ (λ _. kept_put d p _ s) (λ _.
    by-test (Preserved d 0 0 1 s) _ _ _ (λ _. kept_put d p _ s) (λ _.
    by-test (Preserved d 0 0 1 s) _ _ _ (λ _. kept_put d p _ s) (λ _. kept-link d p _ s)))

kept-refused : (end d p g o n : ℕ) (s : State) → Preserved d p g o s (moved s (refuse end (suc n) s.cursor))
unfolding refuse
kept-refused end d p g o n s =
    record {
      records = refl;
      places = refl;
      scope = refl;
      below = λ i j. refl;
      parts = omega arith;
      most = omega arith;
      count = omega arith;
      rest = omega arith;
      went = λ e. absurd (omega arith);
    }

abbrev pub depth_of : Mode → ℕ
depth_of (in_expression w marks depth) = depth
depth_of (in_calls marks depth) = depth
depth_of (in_arguments k marks depth) = depth
depth_of (in_more k marks depth) = depth

-- tokens that are passed at least; and a record is still owed for the part of a call
abbrev pub passes : Mode → ℕ
passes (in_expression w marks depth) = 1
passes (in_calls marks depth) = 0
passes (in_arguments k marks depth) = 1
passes (in_more k marks depth) = 1

abbrev pub owed : Mode → ℕ
owed (in_expression w marks depth) = 0
owed (in_calls marks depth) = 0
owed (in_arguments k marks depth) = 1
owed (in_more k marks depth) = 1

abbrev pub Keeps : Reader → Type 0
Keeps rd = (m : Mode) (s : State) → Preserved (depth_of m) (passes m) 0 (owed m) s (rd m s)

module _ (end : ℕ) (d : ℕ) (s : State) where
  some : (k : ℕ) → 0 < k → is_at k s.cursor.rest ≡ true → length (behind_head s.cursor.rest) + 1 ≤ length s.cursor.rest
  some k l e = behind-some k s.cursor.rest l e

  pub kept-atom : (w : Bool) → is_at word_kind s.cursor.rest ≡ true → Preserved d 1 0 0 s (read_name end w d s)
  unfolding read_name
  kept-atom w e =
      kept_less d 1 1 1 d 1 0 0 s _ (omega arith) (omega arith) (omega arith)
      (kept_then d 1 1 0 0 0 1 s _ _
      (kept-moved d 1 1 s _ (moved-name-part end w (head_word s.cursor.rest) s.cursor (some word_kind (lit< tt) e)))
      (kept-name d s.cursor.parts _ d _))

  pub kept-number : (w : Bool) → is_at digits_kind s.cursor.rest ≡ true → Preserved d 1 0 0 s (read_number end w s)
  unfolding read_number
  kept-number w e =
      kept_less d 1 1 1 d 1 0 0 s _ (omega arith) (omega arith) (omega arith)
      (kept_then d 1 1 0 0 0 1 s _ _
      (kept-moved d 1 1 s _ (moved-number-part end w (head_value s.cursor.rest) s.cursor (some digits_kind (lit< tt) e)))
      (kept_put d s.cursor.parts _ _))

  pub kept-shut : (k : Call) → is_at shut_kind s.cursor.rest ≡ true → Preserved d 1 0 1 s (read_shut end k s)
  unfolding read_shut
  kept-shut k e =
      kept_then d 1 0 0 0 0 1 s _ _
      (kept-moved d 1 0 s _ (moved-judge end _ 1 0 s.cursor _ (λ _. moved-pass end s.cursor (some shut_kind (lit< tt) e))))
      (kept_put d k.place _ _)

  module _ (rd : Reader) (ih : Keeps rd) (marks : ℕ) where
    kept-let : (w : Bool) → is_at let_kind s.cursor.rest ≡ true → Preserved d 1 0 0 s (read_let end rd w marks d s)
    unfolding read_let
    kept-let w e =
        kept_less d 6 1 0 d 1 0 0 s _ (omega arith) (omega arith) (omega arith)
        (kept_then d 3 1 0 3 0 0 s _ _ (kept-moved d 3 1 s _ (moved-let end w marks s.cursor (some let_kind (lit< tt) e)))
        (kept_then d 1 0 0 2 0 0 _ _ _ (ih (in_expression false (suc marks) d) _)
        (kept_then d 1 0 0 1 0 0 _ _ _ (kept-moved d 1 0 _ _ (moved-need end in_kind _ (lit< tt)))
        (kept_then d 1 0 0 0 0 0 _ _ _
        (kept-enter d 1 0 0 _ _ _ _ (ih (in_expression false (suc marks) (suc d)) _))
        (kept-mark d s.cursor.parts _)))))

    kept-lambda : (w : Bool) → is_at lambda_kind s.cursor.rest ≡ true → Preserved d 1 0 0 s (read_lambda end rd w marks d s)
    unfolding read_lambda
    kept-lambda w e =
        kept_less d 4 1 1 d 1 0 0 s _ (omega arith) (omega arith) (omega arith)
        (kept_then d 3 1 0 1 0 1 s _ _ (kept-moved d 3 1 s _ (moved-lambda end w marks d s.scope s.cursor (some lambda_kind (lit< tt) e)))
        (kept_then d 1 0 0 0 0 1 _ _ _
        (kept-enter d 1 0 0 _ _ _ _ (ih (in_expression false (suc marks) (suc d)) _))
        (kept_put d s.cursor.parts _ _)))

    kept-bracket : (w : Bool) → is_at open_kind s.cursor.rest ≡ true → Preserved d 1 0 0 s (read_bracket end rd w marks d s)
    unfolding read_bracket
    kept-bracket w e =
        kept_less d 3 0 0 d 1 0 0 s _ (omega arith) (omega arith) (omega arith)
        (kept_then d 1 0 0 2 0 0 s _ _ (kept-moved d 1 0 s _ (moved-judge end _ 1 0 s.cursor _ (λ _. moved-pass end s.cursor (some open_kind (lit< tt) e))))
        (kept_then d 1 0 0 1 0 0 _ _ _ (ih (in_expression false (suc marks) d) _)
        (kept_then d 1 0 0 0 0 0 _ _ _ (kept-moved d 1 0 _ _ (moved-need end shut_kind _ (lit< tt)))
        (ih (in_calls marks d) _))))

    kept-expression : (w : Bool) → Preserved d 1 0 0 s (read_expression end rd w marks d s)
    unfolding read_expression
    kept-expression w =
        by-test (Preserved d 1 0 0 s) _ _ _ (kept-let w) (λ _.
        by-test (Preserved d 1 0 0 s) _ _ _ (kept-lambda w) (λ _.
        by-test (Preserved d 1 0 0 s) _ _ _ (kept-bracket w) (λ _.
        by-test (Preserved d 1 0 0 s) _ _ _ (λ e. kept_then d 1 0 0 0 0 0 s _ _ (kept-atom w e) (ih (in_calls marks d) _)) (λ _.
        by-test (Preserved d 1 0 0 s) _ _ _ (λ e. kept_then d 1 0 0 0 0 0 s _ _ (kept-number w e) (ih (in_calls marks d) _)) (λ _.
        kept-refused end d 1 0 0 4 s)))))

    kept-calls : Preserved d 0 0 0 s (read_calls end rd marks d s)
    unfolding read_calls
    kept-calls =
        by-test (Preserved d 0 0 0 s) _ _ _
        (λ e. kept_less d 4 1 1 d 0 0 0 s _ (omega arith) (omega arith) (omega arith)
        (kept_then d 3 1 0 1 0 1 s _ _ (kept-moved d 3 1 s _ (moved_call end marks s.cursor (some dot_kind (lit< tt) e))) (ih (in_arguments _ marks d) _)))
        (λ _. kept_same d s)

    kept-shut-calls : (k : Call) → is_at shut_kind s.cursor.rest ≡ true → Preserved d 1 0 1 s (then (read_shut end k s) (λ a. rd (in_calls marks d) a))
    kept-shut-calls k e = kept_then d 1 0 1 0 0 0 s _ _ (kept-shut k e) (ih (in_calls marks d) _)

    kept-arguments : (k : Call) → Preserved d 1 0 1 s (read_arguments end rd k marks d s)
    unfolding read_arguments
    kept-arguments k =
        by-test (Preserved d 1 0 1 s) _ _ _ (kept-shut-calls k) (λ _.
        kept_less d 2 0 1 d 1 0 1 s _ (omega arith) (omega arith) (omega arith)
        (kept_then d 1 0 0 1 0 1 s _ _ (ih (in_expression _ (suc marks) d) _) (ih (in_more _ marks d) _)))

    kept_more : (k : Call) → Preserved d 1 0 1 s (read_more end rd k marks d s)
    unfolding read_more
    kept_more k =
        by-test (Preserved d 1 0 1 s) _ _ _ (kept-shut-calls k) (λ _.
        by-test (Preserved d 1 0 1 s) _ _ _
        (λ e. kept_less d 3 0 1 d 1 0 1 s _ (omega arith) (omega arith) (omega arith)
        (kept_then d 1 0 0 2 0 1 s _ _ (kept-moved d 1 0 s _ (moved-judge end _ 1 0 s.cursor _ (λ _. moved-pass end s.cursor (some comma_kind (lit< tt) e))))
        (kept_then d 1 0 0 1 0 1 _ _ _ (ih (in_expression false (suc marks) d) _) (ih (in_more _ marks d) _))))
        (λ _. kept-refused end d 1 0 1 4 s))

-- a reader keeps what the readers it calls keep, and so does run
step_keeps : (end : ℕ) (rd : Reader) → Keeps rd → Keeps (step end rd)
unfolding step
step_keeps end rd ih (in_expression w marks d) s = kept-expression end d s rd ih marks w
step_keeps end rd ih (in_calls marks d) s = kept-calls end d s rd ih marks
step_keeps end rd ih (in_arguments k marks d) s = kept-arguments end d s rd ih marks k
step_keeps end rd ih (in_more k marks d) s = kept_more end d s rd ih marks k

pub run-keeps : (end f : ℕ) → Keeps (run end f)
unfolding run
run-keeps end zero m s = kept-refused end (depth_of m) (passes m) 0 (owed m) 0 s
run-keeps end (suc f) m s = step_keeps end (run end f) (run-keeps end f) m s

-- so does the whole reading
pub ended-keeps : (end d : ℕ) (s a : State) → Preserved d 1 0 0 s a → Preserved d 1 0 0 s (ended end a)
unfolding ended
ended-keeps end d s a h =
    kept_then d 1 0 0 0 0 0 s a _ h
    (kept-moved d 0 0 a _ (moved-judge end _ 0 0 a.cursor _
    (λ _. record { count = refl; root = refl; parts = omega arith; most = omega arith; rest = omega arith; went = λ _. (omega arith, omega arith) })))
