-- What is left, packed onto what was packed, is the word's number. After i bytes that is below 256 ^ i, so eight bytes fit. Each that was read
-- is a byte. Assumes nothing.
use Rattle.std.proofs.Common.{◌≡◌, ℕ, ◌^◌, ◌<◌, get_or, drop}
use Rattle.language.specs.Names.{pack_onto, packed}
use Rattle.language.specs.NamesLaws.{Byte}
use Rattle.language.proofs.names.pack.Given as goal

abbrev pub invariant-loop-b : goal.invariant-loop-b
invariant-loop-b l = record {
  same : pack_onto l.acc (drop l.b-index l.word) ≡ packed l.word;
  below : l.acc < 256 ^ l.b-index;
  bytes : (k : ℕ) → k < l.b-index → Byte (get_or l.word k 0);
}
