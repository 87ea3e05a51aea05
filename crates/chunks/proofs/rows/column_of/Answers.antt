-- `chunks::rows::column_of` meets its contract: a dependency is below the entry, and each path is a law of Filling. Assumes nothing.
use mathlib.Core.Path.{ap, ◌∙◌}
use Rattle.chunks.specs.Chunks.{operand_of}
use Rattle.chunks.proofs.Filling.{linking, column-two, column-one}
use Rattle.chunks.proofs.rows.column_of.Goals as goal
use Rattle.chunks.proofs.rows.column_of.Goals.{then-is_below, else-is_below}

pub overflow_sub-first : goal.overflow_sub-first
overflow_sub-first c = search linking

pub bounds-map-first_of : goal.bounds-map-first_of
bounds-map-first_of c = search linking

pub overflow_sub-second : goal.overflow_sub-second
overflow_sub-second c = search linking

pub bounds-map-link : goal.bounds-map-link
bounds-map-link c = search linking

pub returns : goal.returns
returns c =
    let width = c.args.width in
    elim c.if-is_below.branch [
      | then-is_below w ↦ column-two c.args.links.now c.args.map.now width c.args.m c.args.j _ _ _ c.first_of.ensures c.second_of-link.ensures
          c.is_below.ensures _ _ _ c.operand.ensures c.column_at.ensures w.if-is_below.true (c.operand-2.ensures ∙ ap (operand_of width 1) w.second-is)
      | else-is_below w ↦ column-one c.args.links.now c.args.map.now width c.args.m c.args.j _ _ _ c.first_of.ensures c.second_of-link.ensures
          c.is_below.ensures _ _ _ c.operand.ensures c.column_at.ensures w.if-is_below.false (c.operand-2.ensures ∙ ap (operand_of width 1) w.second-is)
    ]
