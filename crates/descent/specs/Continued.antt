-- grammar's machine over the tokens with their places, with what is made of its trees: a continuation, so that a reader by descent can be
-- held against it part by part. It reads what read_text reads. Assumes nothing.
use Rattle.std.specs.Prelude.{◌≡◌, List, [], ◌∷◌, map, ℕ, zero, suc, ◌-◌, eqb, length}
use Rattle.std.proofs.Math.Path.{refl, sym, ap}
use Rattle.std.proofs.Common.{◌∙◌}
use Rattle.grammar.specs.Tokens.{Token, Located, tokens}
use Rattle.grammar.specs.Grammar.{Expression, done, first}
use Rattle.grammar.specs.Faults.{Around, opened, fault, counted}
use Rattle.grammar.specs.Reading.{Reading, tree, refused, place_in, tokens_of}
use Rattle.grammar.specs.Machine.{Frame, argument, State, at, expression, calls, arguments, over, Trees, Step, stop, go, step, uncalled, as_argument}
use Rattle.grammar.specs.Machine.{End, too_early, finished, finish, Answer, whole, stopped, further, ended, unless, judge, read_from, begin, alone, read, placed, read_text}

unfoldable pub unless_at : ℕ → ℕ → Reading → Reading
unless_at zero p r = r
unless_at (suc n) p r = refused (suc n) p

unfoldable pub judge_at : {s : State} {t : Token} → ℕ → ℕ → Step s t → ((b : State) → (Trees b → Trees s) → ℕ → Reading) → Reading
judge_at c p stop k = refused 5 p
judge_at c p (go n b back x y) k = unless_at (fault c n) p (k b back (counted c n))

unfoldable pub ended_at : {s : State} → ℕ → (Trees s → Expression) → End s → Reading
ended_at p h too_early = refused 5 p
ended_at p h (finished q x y) = tree (h q)

-- end: the place of the end
unfoldable pub read_on : ℕ → (s : State) → (Trees s → Expression) → ℕ → List Located → Reading
read_on end s h c [] = ended_at end h (finish s)
read_on end s h c (x ∷ xs) = judge_at c x.place (step s x.token) (λ b back c'. read_on end b (λ q. h (back q)) c' xs)

-- what is read of trees, with a place for the number of tokens before it
abbrev answered : {A : Type 0} → (ℕ → ℕ) → (A → Expression) → Answer A → Reading
answered place h (whole a) = tree (h a)
answered place h (stopped n j) = refused n (place j)

answered-further : {A B : Type 0} (place : ℕ → ℕ) (f : A → B) (h : B → Expression) (r : Answer A)
    → answered place h (further f r) ≡ answered (λ j. place (suc j)) (λ q. h (f q)) r
unfolding further
answered-further place f h (whole a) = refl
answered-further place f h (stopped n j) = refl

answered-unless : {A : Type 0} (place : ℕ → ℕ) (h : A → Expression) (n : ℕ) (r : Unit {0} → Answer A)
    → answered place h (unless n r) ≡ unless_at n (place 0) (answered place h (r tt))
unfolding unless_at
answered-unless place h zero r = refl
answered-unless place h (suc n) r = refl

abbrev token_list : List Located → List Token
token_list xs = map (λ (x : Located). x.token) xs

on-end : (end : ℕ) (s : State) (h : Trees s → Expression) (x : End s) → ended_at end h x ≡ answered (place_in [] end) h (ended x)
unfolding ended_at ended place_in
on-end end s h too_early = refl
on-end end s h (finished q p i) = refl

module _ (end : ℕ) (s : State) (h : Trees s → Expression) (c : ℕ) (l : Located) (xs : List Located) where
  on_step : (t : Token) (x : Step s t) (k : (b : State) → (Trees b → Expression) → ℕ → Reading) (k' : (b : State) → ℕ → Answer (Trees b))
      → ((b : State) (h' : Trees b → Expression) (c' : ℕ) → k b h' c' ≡ answered (place_in xs end) h' (k' b c'))
      → judge_at c l.place x (λ b back c'. k b (λ q. h (back q)) c') ≡ answered (place_in (l ∷ xs) end) h (judge c x k')
  unfolding judge_at judge place_in
  on_step t stop k k' ih = refl
  on_step t (go n b back p i) k k' ih =
      ap (unless_at (fault c n) l.place) (ih b (λ q. h (back q)) (counted c n) ∙ sym (answered-further (place_in (l ∷ xs) end) back h (k' b (counted c n))))
      ∙ sym (answered-unless (place_in (l ∷ xs) end) h (fault c n) (λ _. further back (k' b (counted c n))))

on_same : (end : ℕ) (s : State) (h : Trees s → Expression) (c : ℕ) (xs : List Located) → read_on end s h c xs ≡ answered (place_in xs end) h (read_from s c (token_list xs))
unfolding read_on read_from
on_same end s h c [] = on-end end s h (finish s)
on_same end s h c (x ∷ xs) =
    on_step end s h c x xs x.token (step s x.token) (λ b h' c'. read_on end b h' c' xs) (λ b c'. read_from b c' (token_list xs)) (λ b h' c'. on_same end b h' c' xs)

answered-alone : (text : List ℕ) (x : Answer (Trees begin)) → answered (place_in (tokens text) (length text)) (λ q. q.0) x ≡ placed text (alone x)
answered-alone text (whole q) = refl
answered-alone text (stopped n j) = refl

pub text-on : (text : List ℕ) → read_text text ≡ read_on (length text) begin (λ q. q.0) 0 (tokens text)
unfolding read_text read
text-on text = sym (on_same (length text) begin (λ q. q.0) 0 (tokens text) ∙ answered-alone text (read_from begin 0 (tokens_of text)))

-- behind an atom that no call follows, the expression is over
pub uncalled-step : (end : ℕ) (d : Around) (F : List Frame) (h : Trees (at (calls d) F) → Expression) (c p : ℕ) (t : Token) (xs : List Located) (x : Step (at over F) t)
    → judge_at c p (uncalled d F t x) (λ b back c'. read_on end b (λ q. h (back q)) c' xs) ≡ judge_at c p x (λ b back c'. read_on end b (λ q. h (done, (back q).1)) c' xs)
unfolding judge_at uncalled
uncalled-step end d F h c p t xs stop = refl
uncalled-step end d F h c p t xs (go n b back x y) = refl

pub uncalled-end : (end : ℕ) (d : Around) (F : List Frame) (h : Trees (at (calls d) F) → Expression)
    → ended_at end h (finish (at (calls d) F)) ≡ ended_at end (λ o. h (done, o.1)) (finish (at over F))
unfolding ended_at finish
uncalled-end end d [] h = refl
uncalled-end end d (f ∷ F) h = refl

-- the first argument is an expression in the frame of its call
pub argument-step : (end k : ℕ) (d : Around) (F : List Frame) (h : Trees (at (arguments k d) F) → Expression) (c p : ℕ) (t : Token)
    (xs : List Located) (x : Step (at (expression (eqb k 0) (opened d)) (argument (k - 1) d ∷ F)) t)
    → judge_at c p (as_argument k d F t x) (λ b back c'. read_on end b (λ q. h (back q)) c' xs) ≡ judge_at c p x (λ b back c'. read_on end b (λ q. h (first (back q).0 (back q).1.0, (back q).1.1)) c' xs)
unfolding judge_at as_argument
argument-step end k d F h c p t xs stop = refl
argument-step end k d F h c p t xs (go n b back x y) = refl
