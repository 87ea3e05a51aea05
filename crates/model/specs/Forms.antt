-- Lists of forms in which dependencies come first. Assumes nothing.
use Rattle.std.specs.Prelude.{◌≡◌, ◌⊎◌}
use Rattle.std.proofs.lemmas.Bool.{false≢true}
use Rattle.std.proofs.Math.Path.{sym, subst}
use Rattle.std.proofs.Common.{◌∙◌}
use Rattle.std.proofs.Math.Logic.{inl, inr, ⊎_elim}
use Rattle.std.proofs.Math.Bool.{true}
use mathlib.Core.List.{List, [], ◌∷◌, ◌++◌}
use Rattle.language.specs.Cases.{split}
use Rattle.model.specs.Lists.{member, insert, insert_all}
use Rattle.model.specs.Language.{Language}
use Rattle.model.specs.ListLaws.{member-self, member-tail, insert-by, insert-has, member-insert}
use Rattle.model.specs.Laws.{Ordered, Among, Tests}

module _ (L : Language) (T : Tests L) where
  open L use {Form, same, dependency, reach}

  pub reach-down : (d f g : Form) → dependency d f ≡ true → reach f g ≡ true → reach d g ≡ true
  reach-down d f g h e = T.reach-through d f g (T.reach-dependency d f h) e

  -- x is the head of the list or in its tail
  member-cases : (x f : Form) (fs : List Form) → member same f (x ∷ fs) ≡ true → (same x f ≡ true) ⊎ (member same f fs ≡ true)
  unfolding member
  member-cases x f fs h = split (same x f) (λ p. inl p) (λ p. inr (rw p at h))

  member-head : (x f : Form) (fs : List Form) → same x f ≡ true → member same f (x ∷ fs) ≡ true
  unfolding member
  member-head x f fs p = rw p

  ordered-snoc : (g : Form) (pre fs : List Form) → ((d : Form) → dependency d g ≡ true → (member same d pre ≡ true) ⊎ (member same d fs ≡ true))
      → Ordered L pre fs → Ordered L pre (fs ++ (g ∷ []))
  unfolding member
  ordered-snoc g pre [] h o = (λ d e. ⊎_elim (λ p. p) (λ p. absurd (false≢true p)) (h d e), tt)
  ordered-snoc g pre (x ∷ xs) h o = (
    o.0,
    ordered-snoc g (x ∷ pre) xs
        (λ d e. ⊎_elim (λ q. inl (member-tail T.equality x d pre q))
        (λ q. ⊎_elim (λ r. inl (member-head x d pre r)) (λ r. inr r) (member-cases x d xs q)) (h d e))
        o.1,
  )

  -- forms whose dependencies come first, put after such forms
  pub ordered-insert_all : (pre gs fs : List Form) → Ordered L pre gs → Among L pre fs → Ordered L [] fs → Ordered L [] (insert_all same gs fs)
  unfolding insert_all
  ordered-insert_all pre [] fs o a h = h
  ordered-insert_all pre (g ∷ gs) fs o a h =
      ordered-insert_all (g ∷ pre) gs (insert same g fs) o.1
      (λ d e. ⊎_elim
      (λ p. subst (λ (x : Form). member same x (insert same g fs) ≡ true) (T.equality.equal g d p) (insert-has T.equality g fs))
      (λ p. member-insert T.equality d g fs (a d p))
      (member-cases g d pre e))
      (insert-by T.equality (Ordered L []) g fs (λ p. h) (λ p. ordered-snoc g [] fs (λ d e. inr (a d (o.0 d e))) h))

  -- a list that holds all that its forms reach
  Closed : List Form → Type 0
  Closed pre = (h g : Form) → member same h pre ≡ true → reach g h ≡ true → member same g pre ≡ true

  closed-cons : (f : Form) (pre : List Form) → ((d : Form) → dependency d f ≡ true → member same d pre ≡ true) → Closed pre → Closed (f ∷ pre)
  unfolding Closed
  closed-cons f pre ds c h g m e =
      ⊎_elim
      (λ p.
      ⊎_elim (λ q. subst (λ (x : Form). member same x (f ∷ pre) ≡ true) (T.equality.equal f h p ∙ sym q) (member-self T.equality f pre))
      (λ q. member-tail T.equality f g pre
      (c q.0 g (ds q.0 (subst (λ (x : Form). dependency q.0 x ≡ true) (sym (T.equality.equal f h p)) q.1)) q.2))
      (T.reach-only g h e))
      (λ p. member-tail T.equality f g pre (c h g p e))
      (member-cases f h pre m)

  below-either : (pre fs : List Form) → Closed pre → Ordered L pre fs → (h g : Form) → member same h fs ≡ true → reach g h ≡ true
      → (member same g pre ≡ true) ⊎ (member same g fs ≡ true)
  unfolding Closed member
  below-either pre [] c o h g m e = absurd (false≢true m)
  below-either pre (f ∷ fs) c o h g m e =
      let up : Closed (f ∷ pre) = closed-cons f pre o.0 c in
      let back : member same g (f ∷ pre) ≡ true → (member same g pre ≡ true) ⊎ (member same g (f ∷ fs) ≡ true) =
      λ p. ⊎_elim (λ q. inr (member-head f g fs q)) (λ q. inl q) (member-cases f g pre p) in
      ⊎_elim (λ p. back (up h g (member-head f h pre p) e))
      (λ p. ⊎_elim back (λ q. inr (member-tail T.equality f g fs q)) (below-either (f ∷ pre) fs up o.1 h g p e))
      (member-cases f h fs m)

  -- what lies at or below a form held is held
  pub below-held : (fs : List Form) → Ordered L [] fs → (h g : Form) → member same h fs ≡ true → reach g h ≡ true → member same g fs ≡ true
  unfolding Closed member
  below-held fs o h g m e = ⊎_elim (λ p. absurd (false≢true p)) (λ p. p) (below-either [] fs (λ x y a b. absurd (false≢true a)) o h g m e)
