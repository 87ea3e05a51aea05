-- The tokens of a text stand in the order of their byte places, so the first token at fault is the one at the lowest byte place.
-- Assumes nothing.
use Rattle.std.specs.Prelude.{◌≡◌, List, [], ◌∷◌, ℕ, zero, suc, ◌+◌, ◌-◌, ◌<◌, ◌≤◌, length}
use Rattle.std.proofs.Common.{arith}
use Rattle.language.specs.Names.{is_blank}
use Rattle.grammar.specs.Tokens.{token_at, Located, scan, tokens}
use Rattle.grammar.proofs.TokensLaws.{by-test}
use Rattle.grammar.specs.Reading.{place_in, place_of}

-- the places rise, from one that is at or behind the start to the end
abbrev Rises : ℕ → ℕ → List Located → Type 0
Rises start end [] = start ≤ end
Rises start end (x ∷ xs) = (start ≤ x.place) × Rises (suc x.place) end xs

rises-sooner : (start end : ℕ) (xs : List Located) → Rises (suc start) end xs → Rises start end xs
rises-sooner start end [] h = omega arith
rises-sooner start end (x ∷ xs) h = (omega arith, h.1)

scan-rises : (bs : List ℕ) (inside start end : ℕ) → end ≡ start + length bs → Rises start end (scan inside start bs)
unfolding scan
scan-rises [] inside start end e = omega arith
scan-rises (b ∷ bs) (suc n) start end e = rises-sooner start end (scan n (suc start) bs) (scan-rises bs n (suc start) end (omega arith))
scan-rises (b ∷ bs) zero start end e =
    by-test (Rises start end) (is_blank b) _ _
    (λ _. rises-sooner start end (scan zero (suc start) bs) (scan-rises bs zero (suc start) end (omega arith)))
    (λ _. (omega arith, scan-rises bs ((token_at b bs).1 - 1) (suc start) end (omega arith)))

place-from : (start end : ℕ) (xs : List Located) (j : ℕ) → Rises start end xs → start ≤ place_in xs end j
unfolding place_in
place-from start end [] j h = h
place-from start end (x ∷ xs) zero h = h.0
place-from start end (x ∷ xs) (suc j) h = let k = place-from (suc x.place) end xs j h.1 in omega arith

place-rises : (start end : ℕ) (xs : List Located) (i j : ℕ) → Rises start end xs → i < j → j ≤ length xs → place_in xs end i < place_in xs end j
unfolding place_in
place-rises start end [] i j h l m = absurd (omega arith)
place-rises start end (x ∷ xs) i zero h l m = absurd (omega arith)
place-rises start end (x ∷ xs) zero (suc j) h l m = place-from (suc x.place) end xs j h.1
place-rises start end (x ∷ xs) (suc i) (suc j) h l m = place-rises (suc x.place) end xs i j h.1 (omega arith) (omega arith)

pub places-rise : (text : List ℕ) (i j : ℕ) → i < j → j ≤ length (tokens text) → place_of text i < place_of text j
places-rise text i j = place-rises 0 (length text) (tokens text) i j (scan-rises text 0 0 (length text) (omega arith))

-- and none lies beyond the end
rises-end : (start end : ℕ) (xs : List Located) → Rises start end xs → start ≤ end
rises-end start end [] h = h
rises-end start end (x ∷ xs) h = let k = rises-end (suc x.place) end xs h.1 in let l = h.0 in omega arith

place-to : (start end : ℕ) (xs : List Located) (j : ℕ) → Rises start end xs → place_in xs end j ≤ end
unfolding place_in
place-to start end [] j h = omega arith
place-to start end (x ∷ xs) zero h = let k = rises-end (suc x.place) end xs h.1 in omega arith
place-to start end (x ∷ xs) (suc j) h = place-to (suc x.place) end xs j h.1

pub place_inside : (text : List ℕ) (j : ℕ) → place_of text j ≤ length text
place_inside text j = place-to 0 (length text) (tokens text) j (scan-rises text 0 0 (length text) (omega arith))
