-- Where every node is right, each entry has the form that its node builds: the writer needs no more of a table. Assumes nothing.
use Rattle.std.specs.Prelude.{◌≡◌, true, List}
use Rattle.std.proofs.Math.Option.{some}
use Prim.Native.Nat.{ℕ, zero, suc, ◌+◌, ◌≤◌, ◌<◌}
use Rattle.std.proofs.Common.{arith}
use Rattle.std.proofs.Math.ListN.{get_elem?}
use Rattle.language.specs.Limits.{table_entries}
use Rattle.meaning.specs.Forms.{readings}
use Rattle.model.specs.ListLaws.{getD-nth}
use Rattle.model.specs.Graph.{AllPlaced, decodes}
use Rattle.layout.specs.Memory.{node_at}
use Rattle.layout.specs.Nodes.{build}
use Rattle.layout.specs.Numbered.{numbered}
use Rattle.table.specs.Right.{node_right}
use Rattle.table.specs.EntryForms.{forms_of}
use Rattle.table.specs.NodeKinds.{right-fine}
use Rattle.formulas.specs.Formulas.{formulas}
use Rattle.bridge.specs.Graphs.{nodes, graph-laws}
use Rattle.demand.proofs.Decoded.{lower}
use Rattle.writer.specs.Writing.{form_in, Tabled}

numbered-nth : {A : Type 0} (ν : ℕ → A) (i n j : ℕ) → j < n → get_elem? (numbered ν i n) j ≡ some (ν (i + j))
unfolding numbered
numbered-nth ν i zero j h = absurd (omega arith)
numbered-nth ν i (suc n) zero h = let z : i + 0 ≡ i = omega arith in rw z
numbered-nth ν i (suc n) (suc j) h = let z : i + suc j ≡ suc i + j = omega arith in rw z (numbered-nth ν (suc i) n j (omega arith))

module _ (links cells : List ℕ) (count : ℕ) (few : count ≤ table_entries) (right : (i : ℕ) → i < count → node_right i (node_at links cells i) ≡ true) where
  placed : (i k : ℕ) → i + k ≡ count → AllPlaced formulas nodes i (numbered (node_at links cells) i k)
  unfolding numbered
  placed i zero e = tt
  placed i (suc k) e =
      let r = right i (omega arith) in
      (record { fine = right-fine i (node_at links cells i) r; lower = lower i (node_at links cells i) r }, placed (suc i) k (omega arith))

  pub tabled-right : Tabled links cells count
  tabled-right =
      let ns = numbered (node_at links cells) 0 count in
      let stands = decodes formulas nodes graph-laws ns (placed 0 count (omega arith)) in
      record {
        few = few;
        right = right;
        forms = λ i h.
            let z : 0 + i ≡ i = omega arith in
            getD-nth (forms_of ns) i (build (node_at links cells i) (form_in links cells count)) readings
            (stands.form i (node_at links cells i) (rw z at (numbered-nth (node_at links cells) 0 count i h)));
      }
