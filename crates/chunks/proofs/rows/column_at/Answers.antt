-- `chunks::rows::column_at` meets its contract: a mark and a width are so small that their product fits. Assumes nothing.
use native.Mathlib.Omega.{arith}
use Rattle.chunks.proofs.Filling.{product-few}
use Rattle.chunks.proofs.rows.column_at.Goals as goal

pub overflow_mul-result : goal.overflow_mul-result
overflow_mul-result c = omega (arith, product-few c.args.m c.args.width (omega arith) c.requires.1)

pub overflow_add-result : goal.overflow_add-result
overflow_add-result c = omega (arith, product-few c.args.m c.args.width (omega arith) c.requires.1)
