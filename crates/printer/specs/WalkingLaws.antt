-- Laws of the walk over a form: each step of the code is the step of `walked` on the entry's form. Assumes nothing.
use Rattle.std.specs.Prelude.{◌≡◌, refl, Bool, true, not, ◌&&◌, ◌||◌, cond, List, [], ◌∷◌, map, ltb, length}
use Rattle.std.proofs.Math.Path.{sym, ap}
use Rattle.std.proofs.Common.{◌∙◌}
use Rattle.std.proofs.Math.Bool.{false, and-eq-true_iff}
use Prim.Native.Nat.{ℕ, suc, ◌+◌, ◌-◌, ◌≤◌, ◌<◌, ◌%◌}
use native.Mathlib.Omega.{arith}
use borrow.Author.Tests.{eqb-true, eqb-false, ne_eqb, eq-eqb, ltb-true}
use Rattle.std.proofs.Math.Dec.{eqb}
use Rattle.language.specs.Cases.{split}
use Rattle.language.specs.Limits.{open_marks, open_lambdas}
use Rattle.members.specs.declared.Member.{Member}
use Rattle.meaning.specs.Forms.{Form, with_level, name_in, level_in, ask, call, function}
use Rattle.meaning.proofs.FormsLaws.{name_back}
use Rattle.meaning.specs.Evaluation.{has_name}
use Rattle.layout.specs.Memory.{Node, node_at}
use Rattle.layout.specs.Nodes.{number_kind, variable_kind, unbound_kind, function_kind, variable_in, build, is_name}
use Rattle.table.specs.WellFormed.{key_right}
use Rattle.table.specs.Right.{node_right}
use Rattle.table.specs.NodeKinds.{Fine, a_number, a_variable, an_unbound, the_readings, a_function, an_ask, a_call, right-fine}
use Rattle.table.specs.RightLaws.{right_key, level-low, first-low, second-low}
use Rattle.printing.specs.Printed.{is_function}
use Rattle.printing.specs.Bound.{is_innermost}
use Rattle.printing.specs.Judging.{declined, counted, looked, opening, admits, admits_function, at_receiver, walked, refusal_of, verdict}
use Rattle.printing.proofs.JudgingLaws.{looked-few, opening-few, walked-few, walked-declined}
use Rattle.demand.proofs.Cells.{name-some}
use Rattle.writer.specs.NodeTexts.{function-node, ask-node, call-node}
use Rattle.writer.specs.Writing.{form_in, Tabled}
use Rattle.std.specs.Prelude.{Ok, Err}
use Rattle.language.specs.declared.refusals.Refusal.TheVariants.{TextUnfit, OtherForm}
use Rattle.printer.specs.Printing.{verdict_number}
use Rattle.printer.specs.declared.judge.Scope.{Scope}
use Rattle.printer.specs.Walking.{variables, Low, leaf_walked, Walks}

-- ---- what is open

or-none : (b : Bool) → (b || false) ≡ b
or-none true = refl
or-none false = refl

pub bound_names : (x : ℕ) (s : Scope) → is_name x ≡ true → Low s → (eqb x s.inner || eqb x s.outer) ≡ has_name x (map name_in (variables s))
unfolding variables has_name
bound_names x s h l =
    let n = name-some x h in
    let near = l.0 in
    let far = l.1 in
    let a = name_back s.inner s.near (omega arith) in
    let b = name_back s.outer s.far (omega arith) in
    split (eqb s.outer 0)
    (λ e. let z = eqb-true s.outer 0 e in
    rw (e, z, n)
    (split (eqb s.inner 0) (λ o. let y = eqb-true s.inner 0 o in rw (o, y, n)) (λ o. rw (o, a))))
    (λ e. rw (e, a, b, or-none (eqb x s.outer)))

-- of one name, variables are equal just where their levels are
same-level : (x y k l : ℕ) → k < open_lambdas → l < open_lambdas → x ≡ y → eqb k l ≡ eqb (with_level x k) (with_level y l)
same-level x y k l p q e =
    split (eqb k l)
    (λ o. let z = eqb-true k l o in rw o (sym (eq-eqb (with_level x k) (with_level y l) (omega arith))))
    (λ o. rw o (sym (ne_eqb (with_level x k) (with_level y l) (λ z. eqb-false k l o (omega arith)))))

-- a variable is the innermost of its name, by the code's tests
module _ (x level : ℕ) (s : Scope) (named : is_name x ≡ true) (low : level < open_lambdas) (l : Low s) where
  abbrev v : ℕ
  v = with_level x level

  -- the first function has its name, or another
  first-own : (y k : ℕ) → k < open_lambdas → x ≡ y → (ys : List ℕ) → eqb level k ≡ is_innermost v (with_level y k ∷ ys)
  unfolding is_innermost
  first-own y k h e ys = rw (name_back x level (omega arith), name_back y k (omega arith), eq-eqb x y e) (same-level x y level k low h e)

  first-other : (y k : ℕ) → k < open_lambdas → (x ≡ y → ⊥) → (ys : List ℕ) → is_innermost v (with_level y k ∷ ys) ≡ is_innermost v ys
  unfolding is_innermost
  first-other y k h u ys = rw (name_back x level (omega arith), name_back y k (omega arith), ne_eqb x y u)

  -- one function
  only : (y k : ℕ) → k < open_lambdas → (eqb x y && eqb level k) ≡ is_innermost v (with_level y k ∷ [])
  unfolding is_innermost
  only y k h =
      split (eqb x y) (λ e. rw e (first-own y k h (eqb-true x y e) [])) (λ e. rw e (sym (first-other y k h (eqb-false x y e) [])))

  pub own_inner : x ≡ s.inner → eqb level s.near ≡ is_innermost v (variables s)
  unfolding variables
  own_inner e =
      let n = name-some x named in
      let z : eqb s.inner 0 ≡ false = rw e at n in
      split (eqb s.outer 0) (λ o. rw (o, z) (first-own s.inner s.near l.0 e []))
      (λ o. rw o (first-own s.inner s.near l.0 e (with_level s.outer s.far ∷ [])))

  pub own_outer : (x ≡ s.inner → ⊥) → (eqb x s.outer && eqb level s.far) ≡ is_innermost v (variables s)
  unfolding variables is_innermost
  own_outer u =
      let n = name-some x named in
      split (eqb s.outer 0)
      (λ o.
      let z = eqb-true s.outer 0 o in
      let t : eqb x s.outer ≡ false = rw z n in
      rw (o, t) (split (eqb s.inner 0) (λ i. rw i) (λ i. rw i (sym (first-other s.inner s.near l.0 u [])))))
      (λ o. rw o (only s.outer s.far l.1 ∙ sym (first-other s.inner s.near l.0 u (with_level s.outer s.far ∷ []))))

-- how many functions are around; two exactly where there is an outer one
module _ (s : Scope) where
  pub depth-two : (s.outer ≡ 0 → ⊥) → 2 ≡ length (variables s)
  unfolding variables
  depth-two u = rw (ne_eqb s.outer 0 u)

  pub depth-one : s.outer ≡ 0 → (s.inner ≡ 0 → ⊥) → 1 ≡ length (variables s)
  unfolding variables
  depth-one e u = rw (eq-eqb s.outer 0 e, ne_eqb s.inner 0 u)

  pub depth-none : s.outer ≡ 0 → s.inner ≡ 0 → 0 ≡ length (variables s)
  unfolding variables
  depth-none e i = rw (eq-eqb s.outer 0 e, eq-eqb s.inner 0 i)

  pub depth-few : eqb s.outer 0 ≡ ltb (length (variables s)) open_lambdas
  unfolding variables
  depth-few = split (eqb s.outer 0) (λ e. rw e (split (eqb s.inner 0) (λ o. rw o) (λ o. rw o))) (λ e. rw e)

-- a broken limit stays one
looked-declined : (b : Bool) → looked b declined ≡ declined
unfolding looked
looked-declined true = refl
looked-declined false = refl

-- a function can open, by the code's tests
module _ (s : Scope) (level marks n : ℕ) where
  abbrev tests : Bool
  tests = ltb marks open_marks && eqb s.outer 0

  abbrev opened : ℕ
  opened = looked (eqb level (length (variables s))) (opening (admits_function marks (variables s)) (counted n))

  same_tests : tests ≡ admits_function marks (variables s)
  same_tests = rw (depth-few s)

  pub function-opens : tests ≡ true → (d m r : ℕ) → d ≡ length (variables s) → m ≡ counted n → r ≡ looked (eqb level d) m → r ≡ opened
  unfolding opening
  function-opens e d m r p q o = rw (sym same_tests ∙ e, ← p, ← q) o

  pub function-not : tests ≡ false → declined ≡ opened
  unfolding opening
  function-not e = rw (sym same_tests ∙ e) (sym (looked-declined (eqb level (length (variables s)))))

-- one more
pub variables-more : (s : Scope) (marks x k : ℕ) → is_name x ≡ true → s.outer ≡ 0
    → variables (record { marks = marks; inner = x; near = k; outer = s.inner; far = s.near }) ≡ with_level x k ∷ variables s
unfolding variables
variables-more s marks x k h z =
    let n = name-some x h in
    split (eqb s.inner 0) (λ e. rw (z, e, n)) (λ e. rw (z, e))

-- what did not break a limit is within it
opening-within : (b : Bool) (n : ℕ) → (opening b n ≡ declined → ⊥) → b ≡ true
unfolding opening
opening-within true n u = refl
opening-within false n u = absurd (u refl)

-- a node that is no function and no member
leaf_walked_lem : {q : Node} → Fine q → q.kind < function_kind → (φ : ℕ → Form) (k : ℕ) (xs : List ℕ) (n : ℕ) → walked k xs (build q φ) n ≡ leaf_walked q xs n
unfolding build walked leaf_walked
leaf_walked_lem (a_number key) l φ k xs n = refl
leaf_walked_lem (a_variable x _ _) l φ k xs n = refl
leaf_walked_lem (an_unbound x) l φ k xs n = refl
leaf_walked_lem the_readings l φ k xs n = refl
leaf_walked_lem (a_function x b _ _) l φ k xs n = absurd (omega arith)
leaf_walked_lem (an_ask m f h) l φ k xs n = absurd (omega arith)
leaf_walked_lem (a_call m f a h) l φ k xs n = absurd (omega arith)

-- a member has a receiver
member-first : {q : Node} → Fine q → function_kind < q.kind → 1 ≤ q.first
member-first (a_number key) l = absurd (omega arith)
member-first (a_variable x _ _) l = absurd (omega arith)
member-first (an_unbound x) l = absurd (omega arith)
member-first the_readings l = absurd (omega arith)
member-first (a_function x b _ _) l = absurd (omega arith)
member-first (an_ask m f h) l = omega arith
member-first (a_call m f a h) l = omega arith

-- the key of a variable, an unbound name and a function is a name
pub key-name : (q : Node) (k : ℕ) → q.kind ≡ k → key_right q ≡ true → eqb k number_kind ≡ false
    → (eqb k variable_kind || (eqb k unbound_kind || eqb k function_kind)) ≡ true → is_name q.key ≡ true
unfolding key_right
key-name q k e r a b = rw (e, a, b) at r

module _ (q : Node) (xs : List ℕ) (n met : ℕ) (part : met ≡ counted n) where
  pub leaf-variable : q.kind ≡ variable_kind → (b : Bool) → b ≡ is_innermost (variable_in q) xs → (r : ℕ) → r ≡ looked b met → r ≡ leaf_walked q xs n
  unfolding leaf_walked
  leaf-variable e b be r re = rw (e, ← be, ← part) re

  pub leaf-unbound : q.kind ≡ unbound_kind → (b : Bool) → b ≡ has_name q.key (map name_in xs) → (r : ℕ) → r ≡ looked (not b) met → r ≡ leaf_walked q xs n
  unfolding leaf_walked
  leaf-unbound e b be r re = rw (e, ← be, ← part) re

  pub leaf-other : (q.kind ≡ variable_kind → ⊥) → (q.kind ≡ unbound_kind → ⊥) → met ≡ leaf_walked q xs n
  unfolding leaf_walked
  leaf-other a b = rw (ne_eqb q.kind variable_kind a, ne_eqb q.kind unbound_kind b) part

-- ---- the walk

module _ (links cells : List ℕ) (count entry : ℕ) (s : Scope) (found : ℕ) (table : Tabled links cells count) where
  abbrev φ : ℕ → Form
  φ = form_in links cells count

  abbrev k : ℕ
  k = s.marks

  abbrev xs : List ℕ
  xs = variables s

  -- what the walk over the entry finds
  abbrev all : ℕ
  all = walked k xs (φ entry) found

  pub walks-start : entry < count → k ≤ open_marks → found ≤ declined → (q : Node) → q ≡ node_at links cells entry → Walks links cells count entry s found entry q k found
  walks-start h m f q e =
      record { held = h; lower = omega arith; node = e; most = m; few = f; same = ap (λ (j : ℕ). walked j xs (φ entry) found) (either (is_function (φ entry))) }
    where
      either : (b : Bool) → cond b k k ≡ k
      either true = refl
      either false = refl

  module _ (at : ℕ) (q : Node) (marks met : ℕ) (w : Walks links cells count entry s found at q marks met) where
    right : node_right at q ≡ true
    right = rw w.node (table.right at w.held)

    fine : Fine q
    fine = right-fine at q right

    form : φ at ≡ build q φ
    form = table.forms at w.held ∙ ap (λ (p : Node). build p φ) (sym w.node)

    pub walks-key : key_right q ≡ true
    walks-key = right_key at q right

    pub walks-level : q.level < open_lambdas
    walks-level = level-low at q right

    -- what is left of the walk, by the form that the entry has
    ask-left : (m : Member) (f : Form) → φ at ≡ ask m f → walked (at_receiver f k) xs f (opening (admits k) (counted met)) ≡ all
    unfolding walked
    ask-left m f e = rw e at w.same

    call-left : (m : Member) (f a : Form) → φ at ≡ call m f a
        → walked (at_receiver f k) xs f (walked (suc k) xs a (opening (admits k) (counted met))) ≡ all
    unfolding walked
    call-left m f a e = rw e at w.same

    function-left : (v : ℕ) (b : Form) → φ at ≡ function v b
        → walked (suc marks) (v ∷ xs) b (looked (eqb (level_in v) (length xs)) (opening (admits_function marks xs) (counted met))) ≡ all
    unfolding walked
    function-left v b e = rw e at w.same

    -- the receiver of a member comes before it
    pub receiver-low : function_kind < q.kind → (i : ℕ) → i ≡ q.first - 1 → i < at
    receiver-low member i e = let l = first-low at q right in let g = member-first fine member in omega arith

    -- a member
    module _ (member : function_kind < q.kind) (met₁ : ℕ) (opens : met₁ ≡ opening (admits k) (counted met)) where
      pub call-few : met₁ ≤ declined
      call-few = rw opens (opening-few (admits k) met)

      -- a limit is broken
      pub walks-declined : met₁ ≡ declined → declined ≡ all
      walks-declined z = by (eqb q.second 0) refl
        where
          broken : opening (admits k) (counted met) ≡ declined
          broken = sym opens ∙ z

          by : (b : Bool) → eqb q.second 0 ≡ b → declined ≡ all
          by true e =
              let v = ask-node fine member (eqb-true q.second 0 e) in
              let f = φ v.receiver in
              sym (ap (walked (at_receiver f k) xs f) broken ∙ walked-declined (at_receiver f k) xs f) ∙ ask-left v.member f (form ∙ v.form φ)
          by false e =
              let u = eqb-false q.second 0 e in
              let v = call-node fine (λ z. omega arith) (omega arith) in
              let f = φ v.receiver in
              let a = φ v.argument in
              sym (ap (λ (n : ℕ). walked (at_receiver f k) xs f (walked (suc k) xs a n)) broken ∙ ap (walked (at_receiver f k) xs f) (walked-declined (suc k) xs a)
              ∙ walked-declined (at_receiver f k) xs f)
              ∙ call-left v.member f a (form ∙ v.form φ)

      -- within the limits
      module _ (kept : met₁ ≡ declined → ⊥) where
        pub fewer : k + 1 ≤ open_marks
        fewer = let l = ltb-true k open_marks (opening-within (admits k) (counted met) (rw opens at kept)) in omega arith

        -- the receiver is next
        next : (f : ℕ) → q.first ≡ suc f → (met₂ : ℕ) → met₂ ≤ declined → walked (at_receiver (φ f) k) xs (φ f) met₂ ≡ all
            → (i : ℕ) → i ≡ q.first - 1 → (p : Node) → p ≡ node_at links cells i → Walks links cells count entry s found i p (k + 1) met₂
        next f e met₂ l same i ie p pe =
            let z : i ≡ f = omega arith in
            let m : k + 1 ≡ suc k = omega arith in
            let g = first-low at q right in
            let h = w.held in
            let o = w.lower in
            record { held = omega arith; lower = omega arith; node = pe; most = fewer; few = l; same = rw (z, m) same }

        pub walks-ask : q.second ≡ 0 → (i : ℕ) → i ≡ q.first - 1 → (p : Node) → p ≡ node_at links cells i → Walks links cells count entry s found i p (k + 1) met₁
        walks-ask z =
            let v = ask-node fine member z in
            let f = φ v.receiver in
            next v.receiver v.first met₁ call-few (ap (walked (at_receiver f k) xs f) opens ∙ ask-left v.member f (form ∙ v.form φ))

        module _ (given : q.second ≡ 0 → ⊥) (j : ℕ) (second : j ≡ q.second - 1) where
          pub argument-low : j < at
          argument-low = let l = second-low at q right in omega arith

          pub argument-held : j < count
          argument-held = let l = argument-low in let h = w.held in omega arith

          pub walks-call : (met₂ : ℕ) → met₂ ≡ walked (k + 1) (variables (record { marks = k + 1; inner = s.inner; near = s.near; outer = s.outer; far = s.far })) (φ j) met₁
              → (i : ℕ) → i ≡ q.first - 1 → (p : Node) → p ≡ node_at links cells i → Walks links cells count entry s found i p (k + 1) met₂
          unfolding variables
          walks-call met₂ e =
              let v = call-node fine (λ z. omega arith) (omega arith) in
              let f = φ v.receiver in
              let a = φ v.argument in
              let z : j ≡ v.argument = (let g = v.second in omega arith) in
              let m : k + 1 ≡ suc k = omega arith in
              let is : met₂ ≡ walked (suc k) xs a (opening (admits k) (counted met)) = e ∙ (λ i. walked (m i) xs (φ (z i)) (opens i)) in
              next v.receiver v.first met₂ (rw is (walked-few (suc k) xs a (opening (admits k) (counted met))))
              (ap (walked (at_receiver f k) xs f) is ∙ call-left v.member f a (form ∙ v.form φ))

    -- a function
    module _ (kind : q.kind ≡ function_kind) (met₁ : ℕ) (opens : met₁ ≡ looked (eqb q.level (length xs)) (opening (admits_function marks xs) (counted met))) where
      pub function-few : met₁ ≤ declined
      function-few = rw opens (looked-few (eqb q.level (length xs)) (opening (admits_function marks xs) (counted met)) (opening-few (admits_function marks xs) met))

      -- what is left, with the function's body
      body-left : (b : Form) → φ at ≡ function (variable_in q) b → walked (suc marks) (variable_in q ∷ xs) b met₁ ≡ all
      body-left b e =
          let l = walks-level in
          let z : level_in (variable_in q) ≡ q.level = omega arith in
          ap (walked (suc marks) (variable_in q ∷ xs) b) opens ∙ (rw z at (function-left (variable_in q) b e))

      pub function-declined : met₁ ≡ declined → declined ≡ all
      function-declined z =
          let v = function-node fine kind in
          let b = φ v.body in
          sym (ap (walked (suc marks) (variable_in q ∷ xs) b) z ∙ walked-declined (suc marks) (variable_in q ∷ xs) b) ∙ body-left b (form ∙ v.form φ)

      -- within the limits
      module _ (kept : met₁ ≡ declined → ⊥) where
        within : (admits marks && ltb (length xs) open_lambdas) ≡ true
        within =
            opening-within (admits_function marks xs) (counted met)
            (λ e. kept (opens ∙ ap (looked (eqb q.level (length xs))) e ∙ looked-declined (eqb q.level (length xs))))

        pub deeper : marks + 1 ≤ open_marks
        deeper = let l = ltb-true marks open_marks ((and-eq-true_iff (admits marks) _).0 within).0 in omega arith

        module _ (j : ℕ) (first : j ≡ q.first - 1) where
          pub body-low : j < at
          body-low = let v = function-node fine kind in let g = v.first in let l = first-low at q right in omega arith

          pub body-held : j < count
          body-held = let l = body-low in let h = w.held in omega arith

          pub walks-function : (r : ℕ)
              → r ≡ walked (marks + 1) (variables (record { marks = marks + 1; inner = q.key; near = q.level; outer = s.inner; far = s.near })) (φ j) met₁ → r ≡ all
          walks-function r e =
              let v = function-node fine kind in
              let z : j ≡ v.body = (let g = v.first in omega arith) in
              let m : marks + 1 ≡ suc marks = omega arith in
              let few : eqb s.outer 0 ≡ true = depth-few s ∙ ((and-eq-true_iff (admits marks) _).0 within).1 in
              let n = variables-more s (marks + 1) q.key q.level (key-name q function_kind kind walks-key refl refl) (eqb-true s.outer 0 few) in
              e ∙ (λ i. walked (m i) (n i) (φ (z i)) met₁) ∙ body-left (φ v.body) (form ∙ v.form φ)

    pub walks-leaf : q.kind ≤ function_kind → (q.kind ≡ function_kind → ⊥) → leaf_walked q xs met ≡ all
    walks-leaf l n =
        let same : walked (cond (is_function (build q φ)) marks k) xs (build q φ) met ≡ all = rw form at w.same in
        sym (leaf_walked_lem fine (omega arith) φ (cond (is_function (build q φ)) marks k) xs met) ∙ same

-- ---- the whole form

module _ (f : Form) (n : ℕ) (is : n ≡ walked 0 (variables (record { marks = 0; inner = 0; near = 0; outer = 0; far = 0 })) f 0) where
  answered : refusal_of n ≡ verdict f
  unfolding variables
  answered = ap refusal_of is

  pub verdict-declined : n ≡ declined → verdict_number (Err TextUnfit) ≡ verdict f
  unfolding refusal_of
  verdict-declined e = sym (rw (eq-eqb n declined e)) ∙ answered

  module _ (kept : n ≡ declined → ⊥) where
    pub verdict-same : n % 2 ≡ 0 → verdict_number (Ok tt) ≡ verdict f
    unfolding refusal_of
    verdict-same e = sym (rw (ne_eqb n declined kept, eq-eqb (n % 2) 0 e)) ∙ answered

    pub verdict-other : (n % 2 ≡ 0 → ⊥) → verdict_number (Err OtherForm) ≡ verdict f
    unfolding refusal_of
    verdict-other u = sym (rw (ne_eqb n declined kept, ne_eqb (n % 2) 0 u)) ∙ answered

pub ruleset depths = (depth-two, depth-one, depth-none)

pub ruleset verdicts = (verdict-declined, verdict-same, verdict-other)
