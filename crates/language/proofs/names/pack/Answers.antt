-- What is left, packed onto what was packed, is the word's number. After i bytes that is below 256 ^ i, so eight bytes fit. Each that was read
-- is a byte. What the loop goes over is the whole word, which is asked as a fact. Assumes nothing.
use Rattle.std.proofs.Common.{◌≡◌, List, ℕ, ◌+◌, ◌*◌, ◌<◌, ◌≤◌, length, get_or, drop, rules, sym, ap, subst, ◌∙◌, add-one, arith, below_more}
use Rattle.std.proofs.lemmas.List.{take_all}
use Rattle.language.specs.Names.{pack_onto}
use Rattle.language.specs.NamesLaws.{Each, Byte, bytes-at, digit-below, pack-more, pack-done, pack-room}
use Rattle.language.proofs.names.pack.Goals as goal

module _ (s w : List ℕ) (whole : s ≡ w) (i n : ℕ) where
  byte-of : Byte (get_or w i 0) → Byte (get_or s i 0)
  byte-of b = subst (λ (l : List ℕ). Byte (get_or l i 0)) (sym whole) b

  more-of : i < length s → pack_onto (n * 256 + get_or s i 0) (drop (i + 1) w) ≡ pack_onto n (drop i w)
  more-of h = rw whole (pack-more w i n (omega (arith, ap length whole)))

  done-of : length s ≤ i → pack_onto n (drop i w) ≡ n
  done-of h = pack-done w i n (omega (arith, ap length whole))

  bytes-of : length s ≤ i → ((k : ℕ) → k < i → Byte (get_or w k 0)) → Each Byte w
  bytes-of h f = bytes-at w (λ k l. f k (omega (arith, ap length whole)))

pub overflow_mul-acc : goal.overflow_mul-acc
overflow_mul-acc c = omega (arith, pack-room c.loop-b.b-index _ (omega arith) c.loop-b.invariant.below)

pub loop-b-preserved : goal.loop-b-preserved
loop-b-preserved c = record {
  same = more-of _ c.args.word.now (search (rules, take_all)) _ _ c.loop-b-test.true ∙ c.loop-b.invariant.same;
  below = rw add-one (digit-below _ _ _ c.loop-b.invariant.below (byte-of _ c.args.word.now (search (rules, take_all)) _ 0 (c.type_inv.word c.loop-b.b-index).fits));
  bytes = below_more _ _ c.loop-b.invariant.bytes (c.type_inv.word c.loop-b.b-index).fits;
}

pub returns : goal.returns
returns c = (
  sym (done-of _ c.args.word.now (search (rules, take_all)) _ _ c.loop-b-test.false) ∙ c.loop-b.invariant.same,
  bytes-of _ c.args.word.now (search (rules, take_all)) _ 0 c.loop-b-test.false c.loop-b.invariant.bytes,
)
