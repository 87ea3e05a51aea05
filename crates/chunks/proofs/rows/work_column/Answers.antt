-- `chunks::rows::work_column` meets its contract: the constants stand at the front of the buffer, and the column is made from them and from
-- columns before it. Assumes nothing.
use Prim.Native.Nat.{◌≤◌}
use native.Mathlib.Omega.{arith}
use lib.ListN.{length, length-set}
use Rattle.chunks.proofs.Filling.{linking, known-one, known-most, Front, front-two, front-one, front-asks, front-worked}
use Rattle.chunks.proofs.rows.work_column.Goals as goal
use Rattle.chunks.proofs.rows.work_column.Goals.{then-two, else-two}

pub overflow_sub-buf : goal.overflow_sub-buf
overflow_sub-buf c =
    known-one _ _ _ c.first_of-first.ensures c.requires.first

pub bounds-columns-first : goal.bounds-columns-first
bounds-columns-first c =
    known-most _ _ _ c.first_of-first.ensures c.requires.first c.requires.low

pub overflow_sub-buf-then-two : goal.overflow_sub-buf-then-two
overflow_sub-buf-then-two c = search linking

pub bounds-columns-second : goal.bounds-columns-second
bounds-columns-second c = search linking

pub bounds-buf-1 : goal.bounds-buf-1
bounds-buf-1 c = simp length-set (omega arith)

pub column-requires : goal.column-requires
column-requires c =
    let some : 2 ≤ length c.args.buf.now = omega (arith, c.requires.room) in
    let front : Front c.args.body.links.now c.args.columns.frame.now c.args.j c.args.buf.now c.if-two.buf =
    elim c.if-two.branch [
      | then-two w ↦ rw w.buf-is (front-two _ _ _ _ _ c.first_of-first.ensures c.second_of-second.ensures _ some)
      | else-two w ↦ rw w.buf-is (front-one _ _ _ _ _ c.first_of-first.ensures c.second_of-second.ensures _ some _ c.is_below-two.ensures w.if-two.false)
    ] in
    front-asks _ _ _ _ _ _ _ _ _ c.requires front _ c.column_of-k.ensures

pub returns : goal.returns
returns c =
    let some : 2 ≤ length c.args.buf.now = omega (arith, c.requires.room) in
    let front : Front c.args.body.links.now c.args.columns.frame.now c.args.j c.args.buf.now c.if-two.buf =
    elim c.if-two.branch [
      | then-two w ↦ rw w.buf-is (front-two _ _ _ _ _ c.first_of-first.ensures c.second_of-second.ensures _ some)
      | else-two w ↦ rw w.buf-is (front-one _ _ _ _ _ c.first_of-first.ensures c.second_of-second.ensures _ some _ c.is_below-two.ensures w.if-two.false)
    ] in
    front-worked _ _ _ _ _ _ _ _ _ c.requires front _ _ _ _ _ _
    c.kind_of.ensures c.second_of-second.ensures c.is_below-two.ensures c.column_of-k.ensures c.column.ensures
