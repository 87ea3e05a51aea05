-- The reader reads what Reading says: it gives a tree exactly where that tree spells the tokens and keeps the limits, and a refusal exactly
-- where the tokens are refused so. One of the two holds of every text, and the grammar is not ambiguous.
-- Assumes nothing. That never both hold is in ReadingLaws.
use Rattle.std.specs.Prelude.{◌≡◌, refl, ◌↔◌, ◌⊎◌, List, ℕ}
use Rattle.std.proofs.Common.{sym, ap, inl, inr, arith}
use Rattle.std.proofs.Math.Logic.Iff as Iff
use Rattle.grammar.specs.Tokens.{Token}
use Rattle.grammar.specs.Grammar.{Expression, Spells}
use Rattle.grammar.specs.Reading.{ReadsAs, RefusedBy, IsTextRefusal, tree, refused, place_of, tokens_of}
use Rattle.grammar.specs.KeptLimits.{KeepsLimits}
use Rattle.grammar.proofs.KeptLimitsLaws.{limits-kept}
use Rattle.grammar.specs.Machine.{Trees, spell, notes, Answer, whole, stopped, read_from, begin, alone, read, placed, read_text}
use Rattle.grammar.proofs.ReadLaws.{no_whole, sound, complete, Refuses, refuses, same-trees}
use Rattle.grammar.proofs.ReadingLaws.{tree-number, refusal-number, not-both, one-refusal}

-- the grammar is not ambiguous
pub one-tree : (ts : List Token) (e e' : Expression) → Spells e ts → Spells e' ts → e ≡ e'
unfolding spell
one-tree ts e e' h h' = ap (λ (q : Trees begin). q.0) (same-trees begin ts (e, tt) (e', tt) h h')

-- tokens are read as a tree
read-sound : (ts : List Token) (e : Expression) → read ts ≡ whole e → ReadsAs ts e
unfolding read spell notes
read-sound ts e h = by (read_from begin 0 ts) refl h
  where
    by : (x : Answer (Trees begin)) → read_from begin 0 ts ≡ x → alone x ≡ whole e → ReadsAs ts e
    by (whole q) g h = let c : q.0 ≡ e = cc in let z = sound begin 0 ts q g in rw (← c) (record { spelled = z.spelled; clean = z.clean })
    by (stopped n j) g h = absurd (no_whole h)

read-complete : (ts : List Token) (e : Expression) → ReadsAs ts e → read ts ≡ whole e
unfolding read spell notes
read-complete ts e h = rw (complete begin 0 ts (e, tt) (record { spelled = h.spelled; clean = h.clean }))

-- or they are refused
stopped-refuses : (ts : List Token) (n j : ℕ) → read ts ≡ stopped n j → Refuses begin 0 ts n j
unfolding read
stopped-refuses ts n j h = by (read_from begin 0 ts) refl h
  where
    by : (x : Answer (Trees begin)) → read_from begin 0 ts ≡ x → alone x ≡ stopped n j → Refuses begin 0 ts n j
    by (whole q) g h = absurd (no_whole (sym h))
    by (stopped m i) g h = let a : m ≡ n = cc in let b : i ≡ j = cc in refuses begin 0 ts n j (rw (a, b) at g)

read-refused : (ts : List Token) (n j : ℕ) → read ts ≡ stopped n j → RefusedBy ts n j
unfolding spell notes
read-refused ts n j h =
    let v = stopped-refuses ts n j h in
    record {
      refusal = v.number;
      before = (v.before.0.0, v.before.1);
      beyond = λ m. let y = v.beyond m in (y.0.0, y.1);
      clear = λ e. v.clear (e, tt);
      stops = λ z e m. let r = tree-number e j n (v.fault (e, tt) m) v.number in omega arith;
      fault = λ e. v.fault (e, tt);
    }

refused-read : (ts : List Token) (n j : ℕ) → RefusedBy ts n j → read ts ≡ stopped n j
refused-read ts n j r = by (read ts) refl
  where
    by : (x : Answer Expression) → read ts ≡ x → x ≡ stopped n j
    by (whole e) h = absurd (not-both ts e n j (read-sound ts e h) r)
    by (stopped n' j') h = let z = one-refusal ts n' j' n j (read-refused ts n' j' h) r in let a = z.0 in let b = z.1 in rw (a, b) refl

-- one of the two holds of all tokens
pub read-total : (ts : List Token) → ((e : Expression) × ReadsAs ts e) ⊎ ((n : ℕ) × (j : ℕ) × RefusedBy ts n j)
read-total ts = by (read ts) refl
  where
    by : (x : Answer Expression) → read ts ≡ x → ((e : Expression) × ReadsAs ts e) ⊎ ((n : ℕ) × (j : ℕ) × RefusedBy ts n j)
    by (whole e) h = inl (e, read-sound ts e h)
    by (stopped n j) h = inr (n, j, read-refused ts n j h)

-- texts
text-read : (text : List ℕ) (e : Expression) → (read_text text ≡ tree e) ↔ ReadsAs (tokens_of text) e
unfolding read_text
text-read text e = (λ h. read-sound (tokens_of text) e (by (read (tokens_of text)) h), λ h. rw (read-complete (tokens_of text) e h))
  where
    by : (x : Answer Expression) → placed text x ≡ tree e → x ≡ whole e
    by (whole e') h = let p : e' ≡ e = cc in ap whole p
    by (stopped n j) h = let z : ◌≡◌ {A = ℕ} 0 1 = cc in absurd (omega arith)

-- in plain words: the tree spells the text's tokens and keeps the limits
pub text-read-plainly : (text : List ℕ) (e : Expression) → (read_text text ≡ tree e) ↔ (Spells e (tokens_of text) × KeepsLimits e)
text-read-plainly text e =
    Iff.trans (text-read text e)
    (λ h. (h.spelled, (limits-kept e).0 h.clean), λ h. record { spelled = h.0; clean = (limits-kept e).1 h.1 })

pub text-refused : (text : List ℕ) (n p : ℕ) → (read_text text ≡ refused n p) ↔ ((j : ℕ) × RefusedBy (tokens_of text) n j × (p ≡ place_of text j))
unfolding read_text
text-refused text n p = (λ h. by (read (tokens_of text)) refl h, λ z. let r = refused-read (tokens_of text) n z.0 z.1 in let e = z.2 in rw (r, e) refl)
  where
    by : (x : Answer Expression) → read (tokens_of text) ≡ x → placed text x ≡ refused n p → (j : ℕ) × RefusedBy (tokens_of text) n j × (p ≡ place_of text j)
    by (whole e) g h = let z : ◌≡◌ {A = ℕ} 0 1 = cc in absurd (omega arith)
    by (stopped m j) g h = let a : m ≡ n = cc in (j, rw a at (read-refused (tokens_of text) m j g), cc)

-- with one of a text's numbers
pub text-number : (text : List ℕ) (n p : ℕ) → read_text text ≡ refused n p → IsTextRefusal n
text-number text n p h = let r = (text-refused text n p).0 h in refusal-number (tokens_of text) n r.0 r.1
