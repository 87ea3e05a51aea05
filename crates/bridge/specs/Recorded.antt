-- The records of a tree unfold to its let-free forms: the root to the whole's, each place to its part's, and bound in their order they add
-- what the forms in the order of binding add. Assumes nothing.
use Rattle.std.specs.Prelude.{Option, Some, None}
use Rattle.std.proofs.lemmas.Bool.{false≢true}
use Rattle.std.specs.Prelude.{◌≡◌, refl, Bool, true, false, cond, List, [], ◌∷◌, ◌++◌, map, ℕ, zero, suc, ◌+◌, ◌<◌, ◌≤◌, T, eqb, ℤ, pos, negsuc, ◌+ℤ◌, ◌-ℤ◌, ◌≤ℤ◌, length, get_or}
use Rattle.std.proofs.Common.{sym, ap, ◌∙◌, append-nil, append_assoc, arith, eqb-true, le-ltb, leb→le, length-append}
use Rattle.std.proofs.lemmas.List.{map-append, get_or_at}
use Rattle.std.proofs.Math.Dec.{eqb-suc-zero}
use Rattle.std.proofs.Math.IntN.{+ℤ-neg_ℤ_cancel}
use Rattle.std.specs.Int.Signed.{non_neg, pos-nat_abs}
use Rattle.std.proofs.Math.ListN.{get_or-append}
use Rattle.language.specs.Limits.{least_number}
use Rattle.language.specs.Names.{packed, same_name, is_data}
use Rattle.members.specs.Members.{arguments, member_of, is_unknown, takes}
use Rattle.members.specs.MembersLaws.{few-arguments}
use Rattle.members.specs.declared.Member.{Member}
use Rattle.language.specs.Cases.{split}
use Rattle.grammar.specs.Grammar.{Expression, Calls, Arguments, More, let_in, lambda, name, literal, bracket, done, call, none, first, last, next}
use Rattle.grammar.specs.Faults.{Around, outermost, opened, in_lambda}
use Rattle.grammar.specs.KeptLimits.{given_a, given_m, EverywhereE, EverywhereC, EverywhereA, EverywhereM, InRange, KeepsLimits}
use Rattle.grammar.proofs.SingleLimits.{FewLambdas, RightCalls, SmallNumbers}
use Rattle.grammar.proofs.KeptLimitsLaws.{keeps-each}
use Rattle.meaning.specs.Forms.{Form, with_level, number, variable, unbound, readings, ask, same}
use Rattle.meaning.proofs.FormsLaws.{same-eq, same_self}
use Rattle.meaning.specs.Binding.{Meaning, lambdas, look_up, named, as_let, as_lambda, member, form_e, form_c, form_a, form_m, called, places_e}
use Rattle.meaning.specs.Binding.{places_c, places_a, places_m, order_e, order_c, order_a, order_m, form_of, forms_by_place, forms_in_order}
use Rattle.model.specs.Lists.{All, member as is_in, insert, insert_all}
use Rattle.model.specs.ListLaws.{Equality, all_append, insert-old, insert_all-has}
use Rattle.model.specs.Decoding.{decode_from}
use Rattle.model.specs.Graph.{among, form_at, AllPlaced, decode, decode-snoc}
use Rattle.layout.specs.Memory.{Node, node_with, node}
use Rattle.layout.specs.Nodes.{number_kind, function_kind, member_kind, number_of_key, build, kids, arity, member_of_kind}
use Rattle.table.specs.NodeKinds.{Fine, a_number, a_variable, an_unbound, the_readings, a_function, an_ask, a_call, fine-low, node_form, build-fine}
use Rattle.records.specs.Records.{Named, lambdas_of, Recorded, new_record, number_key, linked, record_scoped, record_name, behind, record_e, record_c, record_a, record_m, records_of}
use Rattle.formulas.specs.Formulas.{formulas}
use Rattle.table.specs.EntryForms.{forms_of}
use Rattle.bridge.specs.Graphs.{nodes, kids-function, kids-ask, kids-call, among_one, among_two}

-- the form of a record
abbrev pub form_in : List Node → ℕ → Form
form_in t j = form_at formulas nodes (forms_of t) j

equality : Equality same
equality = record { equal = same-eq; self = same_self }

-- forms that add the same, whatever is held
abbrev Same : List Form → List Form → Type 0
Same xs ys = (fs : List Form) → insert_all same xs fs ≡ insert_all same ys fs

insert-append : (xs ys fs : List Form) → insert_all same (xs ++ ys) fs ≡ insert_all same ys (insert_all same xs fs)
unfolding insert_all
insert-append [] ys fs = refl
insert-append (x ∷ xs) ys fs = insert-append xs ys (insert same x fs)

-- a form that is there already adds nothing
same-again : (xs us : List Form) (f : Form) → is_in same f xs ≡ true → Same (xs ++ (f ∷ us)) (xs ++ us)
unfolding insert_all
same-again xs us f h fs =
    insert-append xs (f ∷ us) fs
    ∙ ap (insert_all same us) (insert-old equality f (insert_all same xs fs) (insert_all-has equality f xs fs h))
    ∙ sym (insert-append xs us fs)

-- records behind others: their forms stand, and the others' too
length-decode : (fs : List Form) (u : List Node) → length (decode formulas nodes fs u) ≡ length fs + length u
unfolding decode_from
length-decode fs [] = omega arith
length-decode fs (n ∷ u) = let a = length-decode (fs ++ (build n (form_at formulas nodes fs) ∷ [])) u in let b = length-append fs (build n (form_at formulas nodes fs) ∷ []) in omega arith

pub length-forms : (t : List Node) → length (forms_of t) ≡ length t
length-forms t = length-decode [] t ∙ omega arith

pub decode-append : (fs : List Form) (t u : List Node) → decode formulas nodes fs (t ++ u) ≡ decode formulas nodes (decode formulas nodes fs t) u
unfolding decode_from
decode-append fs [] u = refl
decode-append fs (n ∷ t) u = decode-append (fs ++ (build n (form_at formulas nodes fs) ∷ [])) t u

decode-keeps : (fs : List Form) (u : List Node) (j : ℕ) → j < length fs → form_at formulas nodes (decode formulas nodes fs u) j ≡ form_at formulas nodes fs j
unfolding decode_from
decode-keeps fs [] j h = refl
decode-keeps fs (n ∷ u) j h =
    let f = build n (form_at formulas nodes fs) in
    let l = length-append fs (f ∷ []) in
    decode-keeps (fs ++ (f ∷ [])) u j (omega arith) ∙ get_or-append fs (f ∷ []) readings j h

form-kept : (t u : List Node) (j : ℕ) → j < length t → form_in (t ++ u) j ≡ form_in t j
form-kept t u j h = let l = length-forms t in ap (λ (fs : List Form). form_at formulas nodes fs j) (decode-append [] t u) ∙ decode-keeps (forms_of t) u j (omega arith)

forms-kept : (t u : List Node) (ps : List ℕ) → All (λ (p : ℕ). p < length t) ps → map (form_in (t ++ u)) ps ≡ map (form_in t) ps
forms-kept t u [] h = refl
forms-kept t u (p ∷ ps) h = rw (form-kept t u p h.0, forms-kept t u ps h.1)

-- a node of form f behind them
module _ {n : Node} (k : Fine n) (t : List Node) (f : Form) (e : node_form k (form_in t) ≡ f) where
  forms-next : forms_of (t ++ (n ∷ [])) ≡ forms_of t ++ (f ∷ [])
  forms-next = decode-snoc formulas nodes [] t n ∙ ap (λ (h : Form). forms_of t ++ (h ∷ [])) (build-fine k (form_in t) ∙ e)

  form-last : form_in (t ++ (n ∷ [])) (length t) ≡ f
  form-last = rw forms-next (get_or_at (forms_of t) f [] readings (length t) (length-forms t))

placed-append : (i : ℕ) (u v : List Node) → AllPlaced formulas nodes i u → AllPlaced formulas nodes (i + length u) v → AllPlaced formulas nodes i (u ++ v)
placed-append i [] v p q = let z : i + 0 ≡ i = omega arith in rw z at q
placed-append i (n ∷ u) v p q = let z : i + suc (length u) ≡ suc i + length u = omega arith in (p.0, placed-append (suc i) u v p.1 (rw z at q))

all-longer : (a b : ℕ) (ps : List ℕ) → a ≤ b → All (λ (p : ℕ). p < a) ps → All (λ (p : ℕ). p < b) ps
all-longer a b [] l h = tt
all-longer a b (p ∷ ps) l h = let x = h.0 in (omega arith, all-longer a b ps l h.1)

-- what is read to R behind the records t: its form f, its parts' forms before v, and its forms in order before u
record Right (R : Recorded) (t : List Node) (f : Form) (ps os : List Form → List Form) : Type 0 where
  more : List Node
  is : R.records ≡ t ++ more
  placed : AllPlaced formulas nodes (length t) more
  low : R.root < length R.records
  form : form_in R.records R.root ≡ f
  inside : All (λ (p : ℕ). p < length R.records) R.places
  places : (v : List Form) → map (form_in R.records) R.places ++ v ≡ ps v
  order : (u : List Form) → Same (forms_of t ++ os u) (forms_of R.records ++ u)

-- one after the other, the second's places alone
extended : (A B : Recorded) (t : List Node) (f g : Form) (pa pb oa ob : List Form → List Form) → Right A t f pa oa → Right B A.records g pb ob → Right B t g pb (λ u. oa (ob u))
extended A B t f g pa pb oa ob a b =
    let x = a.is in
    let y = b.is in
    let l = length-append t a.more in
    record {
      more = a.more ++ b.more;
      is = y ∙ rw x (append_assoc t a.more b.more);
      placed = placed-append (length t) a.more b.more a.placed (rw (x, l) at b.placed);
      low = b.low;
      form = b.form;
      inside = b.inside;
      places = b.places;
      order = λ u fs. a.order (ob u) fs ∙ b.order u fs;
    }

-- places before those of R
before : (ps : List ℕ) (R : Recorded) (t : List Node) (f : Form) (pr os : List Form → List Form) → All (λ (p : ℕ). p < length t) ps
    → Right R t f pr os → Right (behind ps R) t f (λ v. map (form_in t) ps ++ pr v) os
before ps R t f pr os h r =
    let x = r.is in
    let l = length-append t r.more in
    let n : length t ≤ length R.records = rw x (omega arith) in
    record {
      more = r.more;
      is = r.is;
      placed = r.placed;
      low = r.low;
      form = r.form;
      inside = all_append (λ (p : ℕ). p < length R.records) ps R.places (all-longer (length t) (length R.records) ps n h) r.inside;
      places = λ v.
          ap (λ (m : List Form). m ++ v) (map-append (form_in R.records) ps R.places)
          ∙ append_assoc (map (form_in R.records) ps) (map (form_in R.records) R.places) v
          ∙ ap (λ (m : List Form). map (form_in R.records) ps ++ m) (r.places v)
          ∙ ap (λ (m : List Form). m ++ pr v) (ap (λ (k : List Node). map (form_in k) ps) x ∙ forms-kept t r.more ps h);
      order = r.order;
    }

-- one more record, whose place stands before others
pushed : {n : Node} (k : Fine n) (R : Recorded) (t : List Node) (f g : Form) (pr os : List Form → List Form) → ((j : ℕ) → among j (kids n) ≡ true → j < length R.records)
    → node_form k (form_in R.records) ≡ g → Right R t f pr os → Right (new_record n R.records (length R.records ∷ R.places)) t g (λ v. g ∷ pr v) (λ u. os (g ∷ u))
pushed {n} k R t f g pr os p e r =
    let x = r.is in
    let y = form-last k R.records g e in
    let l = length-append R.records (n ∷ []) in
    let i = length-append t r.more in
    let m : length R.records ≤ length (R.records ++ (n ∷ [])) = omega arith in
    let z : length R.records ≡ length t + length r.more = ap length x ∙ i in
    record {
      more = r.more ++ (n ∷ []);
      is = rw x (append_assoc t r.more (n ∷ []));
      placed = placed-append (length t) r.more (n ∷ []) r.placed (record { fine = k; lower = λ j a. rw z at (p j a) }, tt);
      low = omega arith;
      form = y;
      inside = (omega arith, all-longer (length R.records) _ R.places m r.inside);
      places = λ v.
          ap (λ (h : Form). h ∷ (map (form_in (R.records ++ (n ∷ []))) R.places ++ v)) y
          ∙ ap (λ (fs : List Form). g ∷ (fs ++ v)) (forms-kept R.records (n ∷ []) R.places r.inside)
          ∙ ap (λ (fs : List Form). g ∷ fs) (r.places v);
      order = λ u fs.
          r.order (g ∷ u) fs
          ∙ ap (λ (xs : List Form). insert_all same xs fs) (sym (append_assoc (forms_of R.records) (g ∷ []) u))
          ∙ ap (λ (xs : List Form). insert_all same (xs ++ u) fs) (sym (forms-next k R.records g e));
    }

-- nothing read yet, with record j for what stands
abbrev standing : List Node → ℕ → Recorded
standing t j = record { records = t; root = j; places = [] }

still : (t : List Node) (j : ℕ) (f : Form) → j < length t → form_in t j ≡ f → Right (standing t j) t f (λ v. v) (λ u. u)
still t j f h e = record { more = []; is = sym (append-nil t); placed = tt; low = h; form = e; inside = tt; places = λ v. refl; order = λ u fs. refl }

-- a new record by itself
fresh : {n : Node} (k : Fine n) (t : List Node) (f : Form) → ((j : ℕ) → among j (kids n) ≡ true → j < length t) → node_form k (form_in t) ≡ f
    → Right (new_record n t (length t ∷ [])) t f (λ v. f ∷ v) (λ u. f ∷ u)
fresh {n} k t f p e =
    let l = length-append t (n ∷ []) in
    let y = form-last k t f e in
    record {
      more = n ∷ [];
      is = refl;
      placed = (record { fine = k; lower = p }, tt);
      low = omega arith;
      form = y;
      inside = (omega arith, tt);
      places = λ v. ap (λ (h : Form). h ∷ v) y;
      order = λ u fs.
          ap (λ (xs : List Form). insert_all same xs fs) (sym (append_assoc (forms_of t) (f ∷ []) u))
          ∙ ap (λ (xs : List Form). insert_all same (xs ++ u) fs) (sym (forms-next k t f e));
    }

-- a use of a let's name: an earlier record again
is-in : (fs : List Form) (j : ℕ) → j < length fs → is_in same (get_or fs j readings) fs ≡ true
unfolding is_in
is-in [] j h = absurd (omega arith)
is-in (f ∷ fs) zero h = rw (same_self f)
is-in (f ∷ fs) (suc j) h = let i = is-in fs j (omega arith) in split (same f (get_or fs j readings)) (λ e. rw e) (λ e. rw (e, i))

again : (t : List Node) (j : ℕ) (f : Form) → j < length t → form_in t j ≡ f → Right (record { records = t; root = j; places = j ∷ [] }) t f (λ v. f ∷ v) (λ u. f ∷ u)
again t j f h e =
    let l = length-forms t in
    let i : is_in same f (forms_of t) ≡ true = rw e at (is-in (forms_of t) j (omega arith)) in
    record {
      more = [];
      is = sym (append-nil t);
      placed = tt;
      low = h;
      form = e;
      inside = (h, tt);
      places = λ v. ap (λ (g : Form). g ∷ v) e;
      order = λ u. same-again (forms_of t) u f i;
    }

-- the scope of records and the environment of forms: name by name, lets with lets and lambdas with lambdas, where k lambdas are around
abbrev Linked : ℕ → List ℕ → (k : ℕ) → Meaning → List Node → Type 0
Linked zero x k e t = (e.1 ≡ variable (with_level (packed x) k)) × (e.2 ≡ true) × (k < 2)
Linked (suc j) x k e t = (j < length t) × (form_in t j ≡ e.1) × (e.2 ≡ false)

abbrev Scoped : List Named → List Meaning → List Node → Type 0
Scoped [] [] t = Unit {0}
Scoped [] (e ∷ Γ) t = ⊥
Scoped (s ∷ Σ) [] t = ⊥
Scoped (s ∷ Σ) (e ∷ Γ) t = (s.0 ≡ e.0) × Linked s.1 s.0 (lambdas_of Σ) e t × Scoped Σ Γ t

linked-longer : (j : ℕ) (x : List ℕ) (k : ℕ) (e : Meaning) (t u : List Node) → Linked j x k e t → Linked j x k e (t ++ u)
linked-longer zero x k e t u h = h
linked-longer (suc j) x k e t u h = let l = length-append t u in let b = h.0 in (omega arith, form-kept t u j h.0 ∙ h.1, h.2)

scoped-longer : (Σ : List Named) (Γ : List Meaning) (t u : List Node) → Scoped Σ Γ t → Scoped Σ Γ (t ++ u)
scoped-longer [] [] t u h = tt
scoped-longer [] (e ∷ Γ) t u h = h
scoped-longer (s ∷ Σ) [] t u h = h
scoped-longer (s ∷ Σ) (e ∷ Γ) t u h = (h.0, linked-longer s.1 s.0 (lambdas_of Σ) e t u h.1, scoped-longer Σ Γ t u h.2)

-- as many lambdas are around by either
linked-lambdas : (j : ℕ) (x : List ℕ) (k n : ℕ) (e : Meaning) (t : List Node) → Linked j x k e t → cond (eqb j 0) (suc n) n ≡ cond e.2 (suc n) n
linked-lambdas zero x k n e t h = let q = h.1 in rw q
linked-lambdas (suc j) x k n e t h = let q = h.2 in rw (eqb-suc-zero j, q)

scoped-lambdas : (Σ : List Named) (Γ : List Meaning) (t : List Node) → Scoped Σ Γ t → lambdas_of Σ ≡ lambdas Γ
unfolding lambdas_of lambdas
scoped-lambdas [] [] t h = refl
scoped-lambdas [] (e ∷ Γ) t h = absurd h
scoped-lambdas (s ∷ Σ) [] t h = absurd h
scoped-lambdas (s ∷ Σ) (e ∷ Γ) t h = linked-lambdas s.1 s.0 (lambdas_of Σ) (lambdas_of Σ) e t h.1 ∙ rw (scoped-lambdas Σ Γ t h.2)

scoped-after : (Σ : List Named) (Γ : List Meaning) (t : List Node) (R : Recorded) (f : Form) (pr os : List Form → List Form) → Right R t f pr os → Scoped Σ Γ t → Scoped Σ Γ R.records
scoped-after Σ Γ t R f pr os r h = let x = r.is in rw x (scoped-longer Σ Γ t r.more h)

-- leaves
abbrev one : Form → List Form → List Form
one f v = f ∷ v

right-pick : (b : Bool) (A B : Recorded) (t : List Node) (f g : Form) → Right A t f (one f) (one f) → Right B t g (one g) (one g)
    → Right (cond b A B) t (cond b f g) (one (cond b f g)) (one (cond b f g))
right-pick true A B t f g p q = p
right-pick false A B t f g p q = q

linked-right : (j : ℕ) (x y : List ℕ) (k : ℕ) (e : Meaning) (t : List Node) → packed x ≡ packed y → Linked j y k e t → Right (linked j x k t) t e.1 (one e.1) (one e.1)
unfolding is_in kids arity member_of_kind
linked-right zero x y k e t q h = fresh (a_variable (packed x) k h.2) t e.1 (λ j e. absurd (false≢true e)) (ap (λ (m : ℕ). variable (with_level m k)) q ∙ sym h.0)
linked-right (suc j) x y k e t q h = again t j e.1 h.0 h.1

scoped-right : (x : List ℕ) (Σ : List Named) (Γ : List Meaning) (t : List Node) → Scoped Σ Γ t → Right (record_scoped x Σ t) t (look_up x Γ) (one (look_up x Γ)) (one (look_up x Γ))
unfolding record_scoped look_up is_in kids arity member_of_kind
scoped-right x [] [] t h = fresh (an_unbound (packed x)) t (unbound (packed x)) (λ j e. absurd (false≢true e)) refl
scoped-right x [] (e ∷ Γ) t h = absurd h
scoped-right x (s ∷ Σ) [] t h = absurd h
scoped-right x (s ∷ Σ) (e ∷ Γ) t h =
    let n = h.0 in
    let l = scoped-right x Σ Γ t h.2 in
    rw (← n)
    (split (same_name x s.0)
    (λ q. rw q (linked-right s.1 x s.0 (lambdas_of Σ) e t (eqb-true (packed x) (packed s.0) q) h.1))
    (λ q. rw q l))

name-right : (x : List ℕ) (Σ : List Named) (Γ : List Meaning) (t : List Node) → Scoped Σ Γ t → Right (record_name x Σ t) t (named x Γ) (one (named x Γ)) (one (named x Γ))
unfolding record_name named is_in kids arity member_of_kind
name-right x Σ Γ t h =
    right-pick (is_data x) _ _ t readings (look_up x Γ)
    (fresh the_readings t readings (λ j e. absurd (false≢true e)) refl)
    (scoped-right x Σ Γ t h)

-- a member that is known and given what it takes
pub given-right : (m : List ℕ) (k : ℕ) → is_unknown (member_of m) ≡ false → k ≡ takes (member_of m) → arguments (member m) ≡ k
unfolding member takes
given-right m k u e = by (member_of m) refl
  where
    by : (f : Option Member) → member_of m ≡ f → arguments (member m) ≡ k
    by (Some n) q = rw q (sym (rw q at e))
    by None q = absurd (false≢true (sym (rw q at u)))

-- the dependencies of a call's record, and of a function's, stand before it
ask-lower : (m : Member) (f i : ℕ) → arguments m ≡ 0 → f < i → (j : ℕ) → among j (kids (node (member_kind m) 0 (suc f) 0)) ≡ true → j < i
ask-lower m f i e h j a = let q = among_one j f (rw (kids-ask m f e) at a) in omega arith

call-lower : (m : Member) (f a i : ℕ) → arguments m ≡ 1 → f < i → a < i → (j : ℕ) → among j (kids (node (member_kind m) 0 (suc f) (suc a))) ≡ true → j < i
call-lower m f a i e h k j b = among_two j f a (rw (kids-call m f a e) at b) (λ q. omega arith) (λ q. omega arith)

function-lower : (x b k i : ℕ) → b < i → (j : ℕ) → among j (kids (node_with function_kind x (suc b) 0 k)) ≡ true → j < i
function-lower x b k i h j a = let q = among_one j b (rw (kids-function x b k) at a) in omega arith

-- a number in range is found again in its key
shifted : (z : ℤ) → least_number ≤ℤ z → T (non_neg (z +ℤ pos 2147483648))
shifted (pos n) h = tt
shifted (negsuc n) h = let l = leb→le n 2147483647 h.le in rw (le-ltb 2147483648 (suc n) (omega arith)) tt

key-number : (z : ℤ) → InRange z → number_of_key (number_key z) ≡ z
key-number z h = ap (λ (y : ℤ). y -ℤ pos 2147483648) (pos-nat_abs (z +ℤ pos 2147483648) (shifted z h.0)) ∙ +ℤ-neg_ℤ_cancel z (pos 2147483648)

-- the same places and order, said otherwise
replaced : (R : Recorded) (t : List Node) (f : Form) (ps qs os : List Form → List Form) → Right R t f ps os → ((v : List Form) → ps v ≡ qs v) → Right R t f qs os
replaced R t f ps qs os r h =
    record { more = r.more; is = r.is; placed = r.placed; low = r.low; form = r.form; inside = r.inside; places = λ v. r.places v ∙ h v; order = r.order }

-- one after the other
after : (A B : Recorded) (t : List Node) (f g : Form) (pa pb oa ob : List Form → List Form) → Right A t f pa oa → Right B A.records g pb ob
    → Right (behind A.places B) t g (λ v. pa (pb v)) (λ u. oa (ob u))
after A B t f g pa pb oa ob a b =
    replaced (behind A.places B) t g _ (λ v. pa (pb v)) (λ u. oa (ob u))
    (extended A (behind A.places B) t f g pa _ oa ob a (before A.places B A.records g pb ob a.inside b))
    (λ v. a.places (pb v))

-- its own place first
rooted : (R : Recorded) (t : List Node) (f : Form) (ps os : List Form → List Form) → Right R t f ps os → Right (behind (R.root ∷ []) R) t f (λ v. f ∷ ps v) os
rooted R t f ps os r =
    record {
      more = r.more;
      is = r.is;
      placed = r.placed;
      low = r.low;
      form = r.form;
      inside = (r.low, r.inside);
      places = λ v. ap (λ (g : Form). g ∷ (map (form_in R.records) R.places ++ v)) r.form ∙ ap (λ (fs : List Form). f ∷ fs) (r.places v);
      order = r.order;
    }

low-after : (R : Recorded) (t : List Node) (f : Form) (ps os : List Form → List Form) → Right R t f ps os → length t ≤ length R.records
low-after R t f ps os r = let x = r.is in let l = length-append t r.more in rw x (omega arith)

form-after : (R : Recorded) (t : List Node) (f : Form) (ps os : List Form → List Form) → Right R t f ps os → (j : ℕ) → j < length t → form_in R.records j ≡ form_in t j
form-after R t f ps os r j h = ap (λ (k : List Node). form_in k j) r.is ∙ form-kept t r.more j h

-- as many lambdas are around a place as its scope has; a let is none
abbrev Counts : List Named → Around → Type 0
Counts Σ d = d.lambdas ≡ lambdas_of Σ

counts-let : (x : List ℕ) (j : ℕ) (Σ : List Named) (d : Around) → Counts Σ d → Counts ((x, suc j) ∷ Σ) d
unfolding lambdas_of
counts-let x j Σ d q = rw (eqb-suc-zero j) q

mutual
  unfolding record_e form_e places_e order_e called lambdas_of lambdas opened in_lambda given_a given_m is_in kids arity member_of_kind

  recorded_e : (e : Expression) (d : Around) (Σ : List Named) (Γ : List Meaning) (t : List Node) → EverywhereE RightCalls e d → EverywhereE SmallNumbers e d → EverywhereE FewLambdas e d → Counts Σ d → Scoped Σ Γ t
      → Right (record_e e Σ t) t (form_e e Γ) (places_e e Γ) (order_e e Γ)
  recorded_e (let_in x a b) d Σ Γ t c n l q s =
      let A = recorded_e a (opened d) Σ Γ t c.1 n.1 l.1 q s in
      let Ra = record_e a Σ t in
      let B = recorded_e b (opened d) ((x, suc Ra.root) ∷ Σ) (as_let x (form_e a Γ) Γ) Ra.records c.2 n.2 l.2 (counts-let x Ra.root Σ (opened d) q)
      (refl, (A.low, A.form, refl), scoped-after Σ Γ t Ra _ _ _ A s) in
      rooted (behind Ra.places (record_e b ((x, suc Ra.root) ∷ Σ) Ra.records)) t _ _ _ (after Ra (record_e b ((x, suc Ra.root) ∷ Σ) Ra.records) t _ _ _ _ _ _ A B)
  recorded_e (lambda x b) d Σ Γ t c n l q s =
      let z = scoped-lambdas Σ Γ t s in
      let room = l.0 in
      let low : lambdas_of Σ < 2 = omega arith in
      let B = recorded_e b (in_lambda d) ((x, 0) ∷ Σ) (as_lambda x Γ) t c.1 n.1 l.1 (ap suc q) (refl, (rw z, refl, low), s) in
      let RB = record_e b ((x, 0) ∷ Σ) t in
      pushed (a_function (packed x) RB.root (lambdas_of Σ) low) RB t _ _ _ _ (function-lower (packed x) RB.root (lambdas_of Σ) _ B.low)
      (rw (z, B.form)) B
  recorded_e (name x r) d Σ Γ t c n l q s =
      let N = name-right x Σ Γ t s in
      let RN = record_name x Σ t in
      after RN (record_c r RN.root Σ RN.records) t _ _ _ _ _ _ N
      (recorded_c r d RN.root (named x Γ) Σ Γ RN.records c.1 n.1 l.1 q (scoped-after Σ Γ t RN _ _ _ N s) N.low N.form)
  recorded_e (literal z r) d Σ Γ t c n l q s =
      let k = node number_kind (number_key z) 0 0 in
      let N = fresh (a_number (number_key z)) t (number z) (λ j e. absurd (false≢true e)) (ap number (key-number z n.0)) in
      let RN = new_record k t (length t ∷ []) in
      after RN (record_c r (length t) Σ (t ++ (k ∷ []))) t _ _ _ _ _ _ N
      (recorded_c r d (length t) (number z) Σ Γ (t ++ (k ∷ [])) c.1 n.1 l.1 q (scoped-after Σ Γ t RN _ _ _ N s) N.low N.form)
  recorded_e (bracket e r) d Σ Γ t c n l q s =
      let E = recorded_e e (opened d) Σ Γ t c.1 n.1 l.1 q s in
      let RE = record_e e Σ t in
      after RE (record_c r RE.root Σ RE.records) t _ _ _ _ _ _ E
      (recorded_c r d RE.root (form_e e Γ) Σ Γ RE.records c.2 n.2 l.2 q (scoped-after Σ Γ t RE _ _ _ E s) E.low E.form)

  recorded_c : (r : Calls) (d : Around) (f : ℕ) (F : Form) (Σ : List Named) (Γ : List Meaning) (t : List Node) → EverywhereC RightCalls r d → EverywhereC SmallNumbers r d → EverywhereC FewLambdas r d → Counts Σ d → Scoped Σ Γ t
      → f < length t → form_in t f ≡ F → Right (record_c r f Σ t) t (form_c r F Γ) (places_c r F Γ) (order_c r F Γ)
  recorded_c done d f F Σ Γ t c n l q s h e = still t f F h e
  recorded_c (call m a) d f F Σ Γ t c n l q s h e = recorded_a a m d f F Σ Γ t (given-right m (given_a a) c.0.0 c.0.1) c.1 n.1 l.1 q s h e

  recorded_a : (a : Arguments) (m : List ℕ) (d : Around) (f : ℕ) (F : Form) (Σ : List Named) (Γ : List Meaning) (t : List Node) → arguments (member m) ≡ given_a a → EverywhereA RightCalls a d
      → EverywhereA SmallNumbers a d → EverywhereA FewLambdas a d → Counts Σ d → Scoped Σ Γ t → f < length t → form_in t f ≡ F
      → Right (record_a a m f Σ t) t (form_a a m F Γ) (λ v. called a m F Γ ∷ places_a a (called a m F Γ) Γ v) (order_a a (called a m F Γ) Γ)
  recorded_a (none r) m d f F Σ Γ t g c n l q s h e =
      let k = node (member_kind (member m)) 0 (suc f) 0 in
      let N = fresh (an_ask (member m) f g) t (ask (member m) F) (ask-lower (member m) f (length t) g h) (ap (ask (member m)) e) in
      let RN = new_record k t (length t ∷ []) in
      after RN (record_c r (length t) Σ (t ++ (k ∷ []))) t _ _ _ _ _ _ N
      (recorded_c r d (length t) (ask (member m) F) Σ Γ (t ++ (k ∷ [])) c n l q (scoped-after Σ Γ t RN _ _ _ N s) N.low N.form)
  recorded_a (first e' x) m d f F Σ Γ t g c n l q s h e =
      let E = recorded_e e' (opened d) Σ Γ t c.0 n.0 l.0 q s in
      let RE = record_e e' Σ t in
      let w = low-after RE t _ _ _ E in
      let few = few-arguments (member m) in
      let only : arguments (member m) ≡ 1 = omega arith in
      let M = recorded_m x m d f RE.root F (form_e e' Γ) RE.places Σ Γ RE.records only c.1 n.1 l.1 q (scoped-after Σ Γ t RE _ _ _ E s)
      (omega arith) (form-after RE t _ _ _ E f h ∙ e) E.low E.form E.inside in
      replaced _ t _ _ _ _ (extended RE (record_m x m f RE.root RE.places Σ RE.records) t _ _ _ _ _ _ E M)
      (λ v. ap (λ (fs : List Form). Form.call (member m) F (form_e e' Γ) ∷ fs) (E.places _))

  recorded_m : (x : More) (m : List ℕ) (d : Around) (f a : ℕ) (F A : Form) (ps : List ℕ) (Σ : List Named) (Γ : List Meaning) (t : List Node) → arguments (member m) ≡ 1 → EverywhereM RightCalls x d
      → EverywhereM SmallNumbers x d → EverywhereM FewLambdas x d → Counts Σ d → Scoped Σ Γ t → f < length t → form_in t f ≡ F → a < length t → form_in t a ≡ A → All (λ (p : ℕ). p < length t) ps
      → Right (record_m x m f a ps Σ t) t (form_m x (Form.call (member m) F A) Γ)
      (λ v. Form.call (member m) F A ∷ (map (form_in t) ps ++ places_m x (Form.call (member m) F A) Γ v)) (order_m x (Form.call (member m) F A) Γ)
  recorded_m (last r) m d f a F A ps Σ Γ t g c n l o s h e k i q =
      let y = node (member_kind (member m)) 0 (suc f) (suc a) in
      let G = Form.call (member m) F A in
      let N = fresh (a_call (member m) f a g) t G (call-lower (member m) f a (length t) g h k) (λ j. Form.call (member m) (e j) (i j)) in
      let RN = new_record y t (length t ∷ []) in
      let C = recorded_c r d (length t) G Σ Γ (t ++ (y ∷ [])) c n l o (scoped-after Σ Γ t RN _ _ _ N s) N.low N.form in
      let RC = record_c r (length t) Σ (t ++ (y ∷ [])) in
      let w = low-after RN t _ _ _ N in
      replaced _ t _ _ _ _
      (after RN (behind ps RC) t _ _ _ _ _ _ N (before ps RC (t ++ (y ∷ [])) _ _ _ (all-longer (length t) _ ps w q) C))
      (λ v. ap (λ (fs : List Form). G ∷ (fs ++ places_c r G Γ v)) (forms-kept t (y ∷ []) ps q))
  recorded_m (next e' x) m d f a F A ps Σ Γ t g c n l o s h e k i q =
      let E = recorded_e e' (opened d) Σ Γ t c.0 n.0 l.0 o s in
      let RE = record_e e' Σ t in
      let G = Form.call (member m) F A in
      let w = low-after RE t _ _ _ E in
      let M = recorded_m x m d f a F A (ps ++ RE.places) Σ Γ RE.records g c.1 n.1 l.1 o (scoped-after Σ Γ t RE _ _ _ E s) (omega arith)
      (form-after RE t _ _ _ E f h ∙ e) (omega arith) (form-after RE t _ _ _ E a k ∙ i)
      (all_append (λ (p : ℕ). p < length RE.records) ps RE.places (all-longer (length t) _ ps w q) E.inside) in
      replaced _ t _ _ _ _ (extended RE (record_m x m f a (ps ++ RE.places) Σ RE.records) t _ _ _ _ _ _ E M)
      (λ v.
      ap (λ (fs : List Form). G ∷ fs)
      (ap (λ (fs : List Form). fs ++ places_m x G Γ v) (map-append (form_in RE.records) ps RE.places)
      ∙ append_assoc (map (form_in RE.records) ps) (map (form_in RE.records) RE.places) (places_m x G Γ v)
      ∙ ap (λ (fs : List Form). map (form_in RE.records) ps ++ fs) (E.places _)
      ∙ ap (λ (fs : List Form). fs ++ places_e e' Γ (places_m x G Γ v)) (ap (λ (y : List Node). map (form_in y) ps) E.is ∙ forms-kept t E.more ps q)))

-- of a whole tree that keeps the limits
pub record Unfolds (e : Expression) (R : Recorded) : Type 0 where
  pub placed : AllPlaced formulas nodes 0 R.records
  pub low : R.root < length R.records
  pub whole : form_in R.records R.root ≡ form_of e
  pub inside : All (λ (p : ℕ). p < length R.records) R.places
  pub places : map (form_in R.records) R.places ≡ forms_by_place e
  pub order : (fs : List Form) → insert_all same (forms_of R.records) fs ≡ insert_all same (forms_in_order e) fs

pub unfolds : (e : Expression) → KeepsLimits e → Unfolds e (records_of e)
unfolding decode_from lambdas_of
unfolds e k =
    let l = keeps-each e k in
    let r = recorded_e e outermost [] [] [] l.members l.numbers l.lambdas refl tt in
    let x = r.is in
    record {
      placed = rw x r.placed;
      low = r.low;
      whole = r.form;
      inside = r.inside;
      places = sym (append-nil _) ∙ r.places [];
      order = λ fs. ap (λ (xs : List Form). insert_all same xs fs) (sym (append-nil (forms_of (records_of e).records))) ∙ sym (r.order [] fs);
    }

-- the records of a tree that keeps the limits have levels below 2
all-low : (i : ℕ) (ns : List Node) → AllPlaced formulas nodes i ns → All (λ (n : Node). n.level < 2) ns
all-low i [] p = tt
all-low i (n ∷ ns) p = (fine-low p.0.fine, all-low (suc i) ns p.1)

pub levels-low : (e : Expression) → KeepsLimits e → All (λ (n : Node). n.level < 2) (records_of e).records
levels-low e k = all-low 0 (records_of e).records (unfolds e k).placed
