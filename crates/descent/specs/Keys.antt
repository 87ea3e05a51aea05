-- The keys of the records of a text that is read are below 2^64: a number's is below 2^32, and a name has at most 8 bytes.
-- Assumes nothing.
use Rattle.std.specs.Prelude.{◌≡◌, List, [], ◌∷◌, ◌++◌, ℕ, zero, suc, ◌^◌, ◌≤◌, ◌<◌, ℤ, pos, negsuc, length}
use Rattle.std.proofs.lemmas.Bool.{cond_both}
use Rattle.std.proofs.Common.{arith, leb→le, lit<, le-ltb}
use Rattle.language.specs.Names.{packed, same_name, is_data}
use Rattle.language.specs.NamesLaws.{each_map, packed-word}
use Rattle.grammar.specs.Grammar.{Expression, Calls, Arguments, More, let_in, lambda, name, literal, bracket, done, call, none, first, last, next}
use Rattle.grammar.specs.Faults.{Around, outermost, opened, in_lambda}
use Rattle.grammar.specs.KeptLimits.{InRange, EverywhereE, EverywhereC, EverywhereA, EverywhereM}
use Rattle.grammar.proofs.SingleLimits.{ShortNames, SmallNumbers}
use Rattle.grammar.proofs.KeptLimitsLaws.{keeps-each}
use Rattle.grammar.specs.Reading.{tree}
use Rattle.grammar.specs.Machine.{read_text}
use Rattle.grammar.proofs.Theorems.{text-read-plainly}
use Rattle.grammar.proofs.Words.{IsWord, word_bytes, Worded, text-worded}
use Rattle.meaning.specs.Binding.{member}
use Rattle.layout.specs.Memory.{Node, node_with, node}
use Rattle.layout.specs.Nodes.{number_kind, readings_kind, function_kind, member_kind}
use Rattle.records.specs.Records.{Named, lambdas_of, number_key, Recorded, new_record, record_name, record_scoped, linked, record_e, record_c, record_a, record_m, records_of}

-- a number's key
number-key : (z : ℤ) → InRange z → number_key z < 2 ^ 32
number-key (pos n) h = let l = leb→le n 2147483647 h.1.le in omega arith
number-key (negsuc n) h =
    let l = leb→le n 2147483647 h.0.le in
    let e = le-ltb 2147483648 (suc n) (omega arith) in
    rw e (omega arith)

-- a name's key
name-key : (x : List ℕ) → length x ≤ 8 → IsWord x → packed x < 2 ^ 64
name-key x l h = packed-word x l (each_map (λ b e. e.1) x (word_bytes x h))

-- every key is small
abbrev pub SmallKeys : List Node → Type 0
SmallKeys [] = Unit {0}
SmallKeys (n ∷ ns) = (n.key < 2 ^ 64) × SmallKeys ns

small-more : (ns : List Node) (n : Node) → SmallKeys ns → n.key < 2 ^ 64 → SmallKeys (ns ++ (n ∷ []))
small-more [] n h k = (k, tt)
small-more (m ∷ ns) n h k = (h.0, small-more ns n h.1 k)

small-linked : (j : ℕ) (x : List ℕ) (k : ℕ) (t : List Node) → packed x < 2 ^ 64 → SmallKeys t → SmallKeys (linked j x k t).records
small-linked zero x k t l h = small-more t _ h l
small-linked (suc j) x k t l h = h

small-scoped : (x : List ℕ) (Σ : List Named) (t : List Node) → packed x < 2 ^ 64 → SmallKeys t → SmallKeys (record_scoped x Σ t).records
unfolding record_scoped
small-scoped x [] t l h = small-more t _ h l
small-scoped x (e ∷ Σ) t l h =
    cond_both (same_name x e.0) _ _ (λ (R : Recorded). SmallKeys R.records) (λ _. small-linked e.1 x (lambdas_of Σ) t l h) (λ _. small-scoped x Σ t l h)

small-name : (x : List ℕ) (Σ : List Named) (t : List Node) → packed x < 2 ^ 64 → SmallKeys t → SmallKeys (record_name x Σ t).records
unfolding record_name
small-name x Σ t l h =
    cond_both (is_data x) (new_record (node readings_kind 0 0 0) t (length t ∷ [])) (record_scoped x Σ t) (λ (R : Recorded). SmallKeys R.records)
    (λ _. small-more t _ h (lit< tt)) (λ _. small-scoped x Σ t l h)

-- the keys of a tree whose names are words
mutual
  unfolding record_e

  keys-E : (e : Expression) (Σ : List Named) (t : List Node) (d : Around) → EverywhereE ShortNames e d → EverywhereE SmallNumbers e d
      → EverywhereE Worded e d → SmallKeys t → SmallKeys (record_e e Σ t).records
  keys-E (let_in x a b) Σ t d s n w k =
      let A = record_e a Σ t in
      keys-E b ((x, suc A.root) ∷ Σ) A.records (opened d) s.2 n.2 w.2 (keys-E a Σ t (opened d) s.1 n.1 w.1 k)
  keys-E (lambda x b) Σ t d s n w k =
      let B = record_e b ((x, 0) ∷ Σ) t in
      small-more B.records (node_with function_kind (packed x) (suc B.root) 0 (lambdas_of Σ)) (keys-E b ((x, 0) ∷ Σ) t (in_lambda d) s.1 n.1 w.1 k)
      (name-key x s.0 w.0)
  keys-E (name x r) Σ t d s n w k =
      let N = record_name x Σ t in
      keys-C r N.root Σ N.records d s.1 n.1 w.1 (small-name x Σ t (name-key x s.0 w.0) k)
  keys-E (literal z r) Σ t d s n w k =
      let l = number-key z n.0 in
      keys-C r (length t) Σ _ d s.1 n.1 w.1 (small-more t (node number_kind (number_key z) 0 0) k (omega arith))
  keys-E (bracket e r) Σ t d s n w k =
      let E = record_e e Σ t in
      keys-C r E.root Σ E.records d s.2 n.2 w.2 (keys-E e Σ t (opened d) s.1 n.1 w.1 k)

  keys-C : (q : Calls) (f : ℕ) (Σ : List Named) (t : List Node) (d : Around) → EverywhereC ShortNames q d → EverywhereC SmallNumbers q d
      → EverywhereC Worded q d → SmallKeys t → SmallKeys (record_c q f Σ t).records
  keys-C done f Σ t d s n w k = k
  keys-C (call m a) f Σ t d s n w k = keys-A a m f Σ t d s.1 n.1 w.1 k

  keys-A : (a : Arguments) (m : List ℕ) (f : ℕ) (Σ : List Named) (t : List Node) (d : Around) → EverywhereA ShortNames a d → EverywhereA SmallNumbers a d
      → EverywhereA Worded a d → SmallKeys t → SmallKeys (record_a a m f Σ t).records
  keys-A (none r) m f Σ t d s n w k = keys-C r (length t) Σ _ d s n w (small-more t (node (member_kind (member m)) 0 (suc f) 0) k (lit< tt))
  keys-A (first e x) m f Σ t d s n w k =
      let E = record_e e Σ t in
      keys-M x m f E.root E.places Σ E.records d s.1 n.1 w.1 (keys-E e Σ t (opened d) s.0 n.0 w.0 k)

  keys-M : (x : More) (m : List ℕ) (f a : ℕ) (ps : List ℕ) (Σ : List Named) (t : List Node) (d : Around) → EverywhereM ShortNames x d
      → EverywhereM SmallNumbers x d → EverywhereM Worded x d → SmallKeys t → SmallKeys (record_m x m f a ps Σ t).records
  keys-M (last r) m f a ps Σ t d s n w k = keys-C r (length t) Σ _ d s n w (small-more t (node (member_kind (member m)) 0 (suc f) (suc a)) k (lit< tt))
  keys-M (next e x) m f a ps Σ t d s n w k =
      let E = record_e e Σ t in
      keys-M x m f a (ps ++ E.places) Σ E.records d s.1 n.1 w.1 (keys-E e Σ t (opened d) s.0 n.0 w.0 k)

pub small-keys : (text : List ℕ) (e : Expression) → read_text text ≡ tree e → SmallKeys (records_of e).records
small-keys text e h =
    let l = keeps-each e ((text-read-plainly text e).0 h).1 in
    keys-E e [] [] outermost l.names l.numbers (text-worded text e h) tt
