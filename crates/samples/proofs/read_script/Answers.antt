-- What a read puts behind the front of the buffer, together with the front, is the front of the buffer then.
use Rattle.std.proofs.Common.{rules, arith, sym, ap, subst, ◌∙◌, ◌≡◌, ◌≤◌, ◌+◌, ℕ, List, ◌++◌, length, take, length-take-le}
use Rattle.std.proofs.Math.Seq.{take-append-add}
use Rattle.std.proofs.lemmas.List.{take-append-le}
use Rattle.std.proofs.KnownBytes.{Consumes-trans}
use Rattle.std.specs.Io.KnownBytes.{Consumes}
use borrow.Rule.Slice.PartMut.{put_mid, post_of}
use Rattle.samples.proofs.read_script.Goals as goal

front-grown : (a k n : ℕ) (xs ys : List ℕ) → a ≤ length xs → n ≤ length ys → take a xs ++ take n ys ≡ take (a + n) (put_mid a k xs ys)
front-grown a k n xs ys inside fits =
    let size : length (take a xs) ≡ a = length-take-le a xs inside in
    sym (ap (λ m. take (m + n) (put_mid a k xs ys)) (sym size)
    ∙ take-append-add (take a xs) (ys ++ post_of a k xs) n
    ∙ ap (λ l. take a xs ++ l) (take-append-le n ys (post_of a k xs) fits))

pub loop-done-preserved : goal.loop-done-preserved
loop-done-preserved g c = record {
  size = search rules;
  inside = search rules;
  bytes = subst (Consumes _ _) (front-grown _ _ _ _ _ c.loop-done.invariant.inside c.in_ok-n.ensures.bound.0)
      (Consumes-trans _ _ _ _ _ c.loop-done.invariant.bytes c.in_ok-n.ensures.bytes.0);
}
