-- 02, T-04: what a printed text is read as: the form's tree and nothing else, and that exactly where the tree keeps the limits.
-- Assumes nothing.
use Rattle.std.specs.Prelude.{◌≡◌, ◌↔◌}
use Rattle.std.proofs.Common.{sym}
use Rattle.grammar.specs.Grammar.{Expression}
use Rattle.grammar.specs.KeptLimits.{KeepsLimits}
use Rattle.grammar.specs.Reading.{tree, tokens_of}
use Rattle.grammar.specs.Machine.{read_text}
use Rattle.grammar.proofs.Theorems.{one-tree, text-read-plainly}
use Rattle.meaning.specs.Forms.{Form}
use Rattle.printing.specs.Printed.{text_of}
use Rattle.printing.specs.Trees.{tree_of}
use Rattle.printing.proofs.Printable.{Printable}
use Rattle.printing.proofs.TokenLaws.{tokens-spelled}

pub reads-exactly : (f : Form) → Printable f → (e : Expression) → (read_text (text_of f) ≡ tree e) ↔ ((e ≡ tree_of f) × KeepsLimits (tree_of f))
reads-exactly f p e =
    let spelt = sym (tokens-spelled f p) in (
      λ h.
          let r = (text-read-plainly (text_of f) e).0 h in
          let same : e ≡ tree_of f = one-tree (tokens_of (text_of f)) e (tree_of f) r.0 spelt in
          (same, rw same at r.1),
      λ h. let same = h.0 in rw same ((text-read-plainly (text_of f) (tree_of f)).1 (spelt, h.1)),
    )
