-- The word's eight bytes, and behind them what stood there. Assumes nothing.
use Rattle.std.proofs.Common.{arith, ◌∙◌}
use borrow.Rule.Slice.PartMut.{same_len_mid}
use Rattle.writer.specs.WholeLaws.{whole-put}
use Rattle.writer.proofs.whole.put_whole.Goals as goal

pub returns : goal.returns
returns c = (
  same_len_mid _ _ _ _ c.copy_from_slice.ensures.len ∙ c.requires.0,
  whole-put c.args.start c.args.word c.args.out.now _ (omega (arith, c.requires)) (c.copy_from_slice.ensures.after ∙ c.to_be_bytes.ensures),
)
