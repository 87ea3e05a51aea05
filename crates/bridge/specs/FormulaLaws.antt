-- The language of formulas has the laws that the reference model's theory asks of a language. Assumes nothing.
use Rattle.std.specs.Prelude.{◌≡◌, refl, List, [], ◌∷◌, ℕ, suc, ◌+◌, ◌≤◌, length}
use Rattle.std.proofs.Common.{sym, arith}
use Rattle.grammar.specs.Grammar.{Expression, Calls, Arguments, More, let_in, lambda, name, literal, bracket, done, call, none, first, last, next}
use Rattle.grammar.specs.KeptLimits.{parts_e, parts_c, parts_a, parts_m}
use Rattle.grammar.specs.Reading.{Reading, tree, refused, tokens_of}
use Rattle.grammar.proofs.Places.{place_inside}
use Rattle.grammar.proofs.ReadingLaws.{refusal-number}
use Rattle.grammar.specs.Machine.{read_text}
use Rattle.grammar.proofs.Theorems.{text-read-plainly, text-refused}
use Rattle.grammar.proofs.Words.{text-worded}
use Rattle.meaning.specs.Forms.{Form, number}
use Rattle.meaning.proofs.FormsLaws.{same-eq, same_self, within-self, within-only, within-trans, dependency-within}
use Rattle.meaning.specs.Binding.{Meaning, as_let, as_lambda, named, form_e, called, places_e, places_c, places_a, places_m, order_e, order_c, order_a, order_m, form_of, forms_by_place, forms_in_order}
use Rattle.model.specs.Language.{rejected, parts}
use Rattle.model.specs.Laws.{Tests, Readable, Rejected, Laws}
use Rattle.formulas.specs.Formulas.{formulas, parsed}
use Rattle.formulas.specs.BindingLaws.{ordered, bound}
use Rattle.bridge.specs.Proper.{Proper}
use Rattle.bridge.specs.ProperLaws.{all-proper}

-- a place for each part, and at most as many forms in order
mutual
  unfolding places_e parts_e

  places_e-length : (e : Expression) (Γ : List Meaning) (u : List Form) → length (places_e e Γ u) ≡ parts_e e + length u
  places_e-length (let_in x a b) Γ u = let p = places_e-length a Γ (places_e b (as_let x (form_e a Γ) Γ) u) in let q = places_e-length b (as_let x (form_e a Γ) Γ) u in omega arith
  places_e-length (lambda x b) Γ u = let q = places_e-length b (as_lambda x Γ) u in omega arith
  places_e-length (name x r) Γ u = let q = places_c-length r (named x Γ) Γ u in omega arith
  places_e-length (literal z r) Γ u = let q = places_c-length r (number z) Γ u in omega arith
  places_e-length (bracket e r) Γ u = let p = places_e-length e Γ (places_c r (form_e e Γ) Γ u) in let q = places_c-length r (form_e e Γ) Γ u in omega arith

  places_c-length : (r : Calls) (f : Form) (Γ : List Meaning) (u : List Form) → length (places_c r f Γ u) ≡ parts_c r + length u
  places_c-length done f Γ u = omega arith
  places_c-length (call m a) f Γ u = let q = places_a-length a (called a m f Γ) Γ u in omega arith

  places_a-length : (a : Arguments) (f : Form) (Γ : List Meaning) (u : List Form) → length (places_a a f Γ u) ≡ parts_a a + length u
  places_a-length (none r) f Γ u = let q = places_c-length r f Γ u in omega arith
  places_a-length (first e x) f Γ u = let p = places_e-length e Γ (places_m x f Γ u) in let q = places_m-length x f Γ u in omega arith

  places_m-length : (x : More) (f : Form) (Γ : List Meaning) (u : List Form) → length (places_m x f Γ u) ≡ parts_m x + length u
  places_m-length (last r) f Γ u = let q = places_c-length r f Γ u in omega arith
  places_m-length (next e x) f Γ u = let p = places_e-length e Γ (places_m x f Γ u) in let q = places_m-length x f Γ u in omega arith

pub parts-placed : (e : Expression) → parts_e e ≡ length (forms_by_place e)
parts-placed e = let p = places_e-length e [] [] in omega arith

mutual
  unfolding order_e parts_e

  order_e-length : (e : Expression) (Γ : List Meaning) (u : List Form) → length (order_e e Γ u) ≤ parts_e e + length u
  order_e-length (let_in x a b) Γ u = let p = order_e-length a Γ (order_e b (as_let x (form_e a Γ) Γ) u) in let q = order_e-length b (as_let x (form_e a Γ) Γ) u in omega arith
  order_e-length (lambda x b) Γ u = let q = order_e-length b (as_lambda x Γ) (form_e (lambda x b) Γ ∷ u) in omega arith
  order_e-length (name x r) Γ u = let q = order_c-length r (named x Γ) Γ u in omega arith
  order_e-length (literal z r) Γ u = let q = order_c-length r (number z) Γ u in omega arith
  order_e-length (bracket e r) Γ u = let p = order_e-length e Γ (order_c r (form_e e Γ) Γ u) in let q = order_c-length r (form_e e Γ) Γ u in omega arith

  order_c-length : (r : Calls) (f : Form) (Γ : List Meaning) (u : List Form) → length (order_c r f Γ u) ≤ parts_c r + length u
  order_c-length done f Γ u = omega arith
  order_c-length (call m a) f Γ u = let q = order_a-length a (called a m f Γ) Γ u in omega arith

  order_a-length : (a : Arguments) (f : Form) (Γ : List Meaning) (u : List Form) → length (order_a a f Γ u) ≤ suc (parts_a a + length u)
  order_a-length (none r) f Γ u = let q = order_c-length r f Γ u in omega arith
  order_a-length (first e x) f Γ u = let p = order_e-length e Γ (order_m x f Γ u) in let q = order_m-length x f Γ u in omega arith

  order_m-length : (x : More) (f : Form) (Γ : List Meaning) (u : List Form) → length (order_m x f Γ u) ≤ suc (parts_m x + length u)
  order_m-length (last r) f Γ u = let q = order_c-length r f Γ u in omega arith
  order_m-length (next e x) f Γ u = let p = order_e-length e Γ (order_m x f Γ u) in let q = order_m-length x f Γ u in omega arith

pub tests : Tests formulas
tests =
    record {
      equality = record { equal = same-eq; self = same_self };
      reach-self = within-self;
      reach-dependency = dependency-within;
      reach-through = within-trans;
      reach-only = within-only;
    }

-- a text that is read, and one that is refused
no-parts : {order places : List Form} {whole : Form} {n p : ℕ} {A : Type 0} → rejected n p ≡ parts order places whole → A
no-parts h = let z : ◌≡◌ {A = ℕ} 0 1 = cc in absurd (never z)
  where
    never : ◌≡◌ {A = ℕ} 0 1 → ⊥
    never z = omega arith

pub readable : (text : List ℕ) (order places : List Form) (whole : Form) → parsed (read_text text) ≡ parts order places whole → Readable formulas Proper order places whole
unfolding parsed
readable text order places whole h = by (read_text text) refl h
  where
    of : (e : Expression) → read_text text ≡ tree e → Readable formulas Proper (forms_in_order e) (forms_by_place e) (form_of e)
    of e g =
        let r = (text-read-plainly text e).0 g in
        let few = r.1.parts in
        let o = order_e-length e [] [] in
        let p = places_e-length e [] [] in
        record {
          ordered = ordered e;
          proper = all-proper e r.1 (text-worded text e g);
          bound = bound e;
          few = omega arith;
          placed = omega arith;
        }

    by : (x : Reading) → read_text text ≡ x → parsed x ≡ parts order places whole → Readable formulas Proper order places whole
    by (tree e) g q =
        let a : forms_in_order e ≡ order = cc in
        let b : forms_by_place e ≡ places = cc in
        let c : form_of e ≡ whole = cc in
        rw (← a, ← b, ← c) (of e g)
    by (refused n p) g q = no-parts q

pub refused-right : (text : List ℕ) (m at : ℕ) → parsed (read_text text) ≡ rejected m at → Rejected text m at
unfolding parsed
refused-right text m at h = by (read_text text) refl h
  where
    of : (n p : ℕ) → read_text text ≡ refused n p → Rejected text n p
    of n p g =
        let r = (text-refused text n p).0 g in
        let b = refusal-number (tokens_of text) n r.0 r.1 in
        let q = r.2 in
        record { least = b.0; most = b.1; inside = rw q (place_inside text r.0) }

    by : (x : Reading) → read_text text ≡ x → parsed x ≡ rejected m at → Rejected text m at
    by (tree e) g q = no-parts (sym q)
    by (refused n p) g q = let a : n ≡ m = cc in let b : p ≡ at = cc in rw (← a, ← b) (of n p g)

unfoldable pub formula-laws : Laws formulas
formula-laws =
    record {
      tests = tests;
      Proper = Proper;
      readable = λ text order places whole l h. readable text order places whole h;
      rejected = λ text m at l h. refused-right text m at h;
    }
