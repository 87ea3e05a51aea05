-- 02, T-04: the form of every entry of a well-formed cache, whatever is kept in it, is one whose text can be read: its numbers are within signed
-- 32 bits, its names are names, and its members are given as many arguments as they take. Assumes nothing.
use Rattle.std.specs.Prelude.{◌≡◌, true, [], ◌∷◌, ℕ, zero, suc, ◌-◌, ◌<◌, ◌^◌, ltb}
use Rattle.std.proofs.Common.{arith, ltb-true, ltb-false, le→leb}
use Rattle.language.specs.Cases.{split}
use Rattle.grammar.specs.KeptLimits.{InRange}
use Rattle.meaning.specs.Forms.{Form, name_in, with_level}
use Rattle.meaning.proofs.FormsLaws.{name_back}
use Rattle.printing.proofs.Printable.{Printable}
use Rattle.printing.specs.Judging.{Saturated}
use Rattle.model.specs.Graph.{among}
use Rattle.layout.specs.Memory.{Memory, Node, entry_count, node_at}
use Rattle.layout.specs.Nodes.{number_of_key, kids}
use Rattle.table.specs.WellFormed.{key_right, well_formed}
use Rattle.table.specs.RightLaws.{right_key}
use Rattle.table.specs.NodeKinds.{Fine, a_number, a_variable, an_unbound, the_readings, a_function, an_ask, a_call, node_form, build-fine, right-fine}
use Rattle.binder.specs.AppendedLaws.{well-parts}
use Rattle.bridge.specs.Graphs.{kids-function, kids-ask, kids-call, among_first, among_second}
use Rattle.interface.specs.Calls.{form_at}
use Rattle.demand.proofs.Bound.{among-by}
use Rattle.demand.proofs.Decoded.{lower}
use Rattle.demand.proofs.ReadBack.{forms-right}

-- a key of 32 bits is of a number in range
key-range : (key : ℕ) → key < 2 ^ 32 → InRange (number_of_key key)
key-range key h =
    split (ltb key 2147483648)
    (λ e. let l = ltb-true key 2147483648 e in rw e (record { le = le→leb (2147483648 - suc key) 2147483647 (omega arith) }, record { le = tt }))
    (λ e. let l = ltb-false key 2147483648 e in rw e (record { le = tt }, record { le = le→leb (key - 2147483648) 2147483647 (omega arith) }))

-- what is shown of each form
abbrev Readable : Form → Type 0
Readable f = Printable f × Saturated f

-- a node with the right key, of dependencies that are so
node-readable : {q : Node} (k : Fine q) (φ : ℕ → Form) → key_right q ≡ true → ((j : ℕ) → among j (kids q) ≡ true → Readable (φ j)) → Readable (node_form k φ)
unfolding key_right
node-readable (a_number key) φ r h = (key-range key (ltb-true key (2 ^ 32) r), tt)
node-readable (a_variable x k l) φ r h = let q = name_back x k (omega arith) in (rw q r, tt)
node-readable (an_unbound x) φ r h = (r, tt)
node-readable the_readings φ r h = (tt, tt)
node-readable (a_function x b k l) φ r h =
    let q = name_back x k (omega arith) in
    let i = h b (among-by b _ _ (kids-function x b k) (among_first b [])) in
    ((rw q r, i.0), i.1)
node-readable (an_ask m f e) φ r h = let i = h f (among-by f _ _ (kids-ask m f e) (among_first f [])) in (i.0, (e, i.1))
node-readable (a_call m f a e) φ r h =
    let i = h f (among-by f _ _ (kids-call m f a e) (among_first f (a ∷ []))) in
    let j = h a (among-by a _ _ (kids-call m f a e) (among_second f a)) in
    ((i.0, j.0), (e, (i.1, j.1)))

module _ (m : Memory) (w : well_formed m ≡ true) where
  up_to : (k n : ℕ) → n < k → n < entry_count m → Readable (form_at m n)
  up_to zero n l h = absurd (omega arith)
  up_to (suc k) n l h =
      let x = node_at m.links m.cells n in
      let r = (well-parts m w).right n h in
      let f = right-fine n x r in
      rw (forms-right m w n h, build-fine f (form_at m))
      (node-readable f (form_at m) (right_key n x r) (λ j a. let i = lower n x r j a in up_to k j (omega arith) (omega arith)))

  pub entry-printable : (n : ℕ) → n < entry_count m → Printable (form_at m n)
  entry-printable n h = (up_to (suc n) n (omega arith) h).0

  pub entry-saturated : (n : ℕ) → n < entry_count m → Saturated (form_at m n)
  entry-saturated n h = (up_to (suc n) n (omega arith) h).1
