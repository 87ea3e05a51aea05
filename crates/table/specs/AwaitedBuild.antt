-- A node awaits what its form awaits, and so few is few either way. Assumes nothing.
use Rattle.std.specs.Prelude.{Option, Some, None}
use Rattle.members.specs.declared.Member.{Member}
use Rattle.std.specs.Prelude.{◌≡◌, refl, false, cond, ◌&&◌, List, [], ◌∷◌, ◌++◌, map, ℕ, suc, ◌-◌, eqb, leb, length, get_or}
use Rattle.std.proofs.Common.{sym, ap, ◌∙◌, arith}
use Rattle.std.proofs.lemmas.List.{map-append}
use borrow.Author.Tests.{eqb-true, eqb-false, ne_eqb}
use Rattle.std.proofs.Math.ListN.{get_or-map}
use Rattle.language.specs.Cases.{split}
use Rattle.members.specs.Members.{arguments}
use Rattle.members.specs.MembersLaws.{few-arguments}
use Rattle.model.specs.Decoding.{decode_from}
use Rattle.meaning.specs.Forms.{Form, readings}
use Rattle.meaning.specs.Evaluation.{joined, awaited}
use Rattle.layout.specs.Memory.{Node}
use Rattle.layout.specs.Nodes.{number_kind, variable_kind, unbound_kind, readings_kind, function_kind, member_of_kind, member_arity, member_form, arity, build}
use Rattle.table.specs.WellFormed.{every, awaits_few}
use Rattle.table.specs.Awaits.{awaited_by, awaited_after, few_awaited}
use Rattle.table.specs.ArityLaws.{function-arity, leaf-arity}

-- what a member awaits, by the number of its dependencies
member-awaits : (f : Option Member) (g a : Form) (k : ℕ) → k ≡ member_arity f
    → cond (eqb k 1) (awaited g) (cond (eqb k 2) (joined (awaited g) (awaited a)) []) ≡ awaited (member_form f g a)
unfolding awaited
member-awaits None g a k e = rw e
member-awaits (Some m) g a k e =
    let l = few-arguments m in
    split (eqb (arguments m) 0)
    (λ p. let z : arguments m ≡ 0 = eqb-true _ _ p in let o : k ≡ 1 = omega arith in rw (o, p))
    (λ p. let o : k ≡ 2 = (let z = eqb-false (arguments m) 0 p in omega arith) in rw (o, p))

arity-as : (k : ℕ) → eqb k function_kind ≡ false → arity k ≡ member_arity (member_of_kind k)
unfolding arity
arity-as k p = rw p

-- a node, and what its dependencies await
module _ (n : Node) (b : List (List ℕ)) (φ : ℕ → Form)
    (first-held : (arity n.kind ≡ 0 → ⊥) → get_or b (n.first - 1) [] ≡ awaited (φ (n.first - 1)))
    (second-held : arity n.kind ≡ 2 → get_or b (n.second - 1) [] ≡ awaited (φ (n.second - 1))) where
  works-awaits : eqb n.kind function_kind ≡ false
      → cond (eqb (arity n.kind) 1) (get_or b (n.first - 1) []) (cond (eqb (arity n.kind) 2) (joined (get_or b (n.first - 1) []) (get_or b (n.second - 1) [])) [])
      ≡ awaited (member_form (member_of_kind n.kind) (φ (n.first - 1)) (φ (n.second - 1)))
  works-awaits p =
      same ∙ member-awaits (member_of_kind n.kind) (φ (n.first - 1)) (φ (n.second - 1)) (arity n.kind) (arity-as n.kind p)
    where
      same : cond (eqb (arity n.kind) 1) (get_or b (n.first - 1) []) (cond (eqb (arity n.kind) 2) (joined (get_or b (n.first - 1) []) (get_or b (n.second - 1) [])) [])
          ≡ cond (eqb (arity n.kind) 1) (awaited (φ (n.first - 1))) (cond (eqb (arity n.kind) 2) (joined (awaited (φ (n.first - 1))) (awaited (φ (n.second - 1)))) [])
      same =
          split (eqb (arity n.kind) 1)
          (λ q. let z : arity n.kind ≡ 1 = eqb-true _ _ q in rw q (first-held (λ e. omega arith)))
          (λ q. rw q
          (split (eqb (arity n.kind) 2)
          (λ u. let z : arity n.kind ≡ 2 = eqb-true _ _ u in rw u (rw (first-held (λ e. omega arith), second-held z)))
          (λ u. rw u)))

  -- the names of the node are those of its form
  pub awaited-build : awaited_by b n ≡ awaited (build n φ)
  unfolding awaited_by build awaited
  awaited-build =
      split (eqb n.kind variable_kind)
      (λ p. let z : n.kind ≡ variable_kind = eqb-true _ _ p in rw (p, ne_eqb n.kind number_kind (λ e. omega arith)))
      (λ p.
      split (eqb n.kind function_kind)
      (λ q.
      let z : n.kind ≡ function_kind = eqb-true _ _ q in
      rw (p, q, ne_eqb n.kind number_kind (λ e. omega arith), ne_eqb n.kind unbound_kind (λ e. omega arith), ne_eqb n.kind readings_kind (λ e. omega arith))
      (rw (first-held (λ e. let y = function-arity n.kind z in omega arith))))
      (λ q.
      split (eqb n.kind number_kind) (λ u. let z : n.kind ≡ number_kind = eqb-true _ _ u in rw (p, q, u, leaf-arity n.kind (omega arith)))
      (λ u.
      split (eqb n.kind unbound_kind) (λ v. let z : n.kind ≡ unbound_kind = eqb-true _ _ v in rw (p, q, u, v, leaf-arity n.kind (omega arith)))
      (λ v.
      split (eqb n.kind readings_kind) (λ w. let z : n.kind ≡ readings_kind = eqb-true _ _ w in rw (p, q, u, v, w, leaf-arity n.kind (omega arith)))
      (λ w. rw (p, q, u, v, w) (works-awaits q))))))

-- the names of nodes, one after the other, are those of the forms that they stand for
held : (fs : List Form) (j : ℕ) → get_or (map awaited fs) j [] ≡ awaited (get_or fs j readings)
unfolding awaited
held fs j = get_or-map awaited fs j readings

pub after-forms : (fs : List Form) (ns : List Node) → awaited_after (map awaited fs) ns ≡ map awaited (decode_from build readings fs ns)
unfolding awaited_after decode_from
after-forms fs [] = refl
after-forms fs (n ∷ ns) =
    let f : Form = build n (λ j. get_or fs j readings) in
    let e : awaited_by (map awaited fs) n ≡ awaited f =
    awaited-build n (map awaited fs) (λ j. get_or fs j readings) (λ u. held fs (n.first - 1)) (λ u. held fs (n.second - 1)) in
    let q : map awaited fs ++ (awaited_by (map awaited fs) n ∷ []) ≡ map awaited (fs ++ (f ∷ [])) = ap (λ (x : List ℕ). map awaited fs ++ (x ∷ [])) e ∙ sym (map-append awaited fs (f ∷ [])) in
    ap (λ (b : List (List ℕ)). awaited_after b ns) q ∙ after-forms (fs ++ (f ∷ [])) ns

every-awaited : (i : ℕ) (fs : List Form)
    → every (λ k (names : List ℕ). leb (length names) 2) i (map awaited fs) ≡ every (λ k (f : Form). leb (length (awaited f)) 2) i fs
unfolding every
every-awaited i [] = refl
every-awaited i (f ∷ fs) = ap (λ b. leb (length (awaited f)) 2 && b) (every-awaited (suc i) fs)

pub few-is : (ns : List Node) → few_awaited ns ≡ awaits_few ns
few-is ns = ap (every (λ k (names : List ℕ). leb (length names) 2) 0) (after-forms [] ns) ∙ every-awaited 0 (decode_from build readings [] ns)
