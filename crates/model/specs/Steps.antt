-- The five things that a call can do to the model's state. Assumes nothing.
use Rattle.std.specs.Prelude.{◌≡◌, Bool, true, false, not, ◌||◌, List, ℕ, ◌≤◌, ◌<◌}
use Rattle.std.proofs.Math.Path.{refl, ap}
use Rattle.std.proofs.Common.{◌∙◌, arith}
use Rattle.std.proofs.Math.Option.{Option, none, some}
use mathlib.Mathlib.Data.Bool.Basic.{or-eq-false-eq-eq-false-and-eq-false as neither}
use borrow.Author.Tests.{ltb-false, le-ltb, lt-ltb}
use Rattle.std.proofs.Math.Dec.{ltb}
use Rattle.std.proofs.Math.ListN.{length, get_elem?}
use Rattle.language.specs.Cases.{split}
use Rattle.language.specs.Limits.{text_bytes, text_parts, table_readings, table_entries}
use Rattle.model.specs.Language.{Language, Parsed, rejected, parts}
use Rattle.model.specs.Model.{State, forms, Request, Open, Edit, Preview, Print, Call, opened, printed, refuse, start, on_open, hold_all, edited_to, bind, on_edit, previewed, look, on_preview, rejects, reads_as, printing, print_found, on_print, on_request, respond}
use Rattle.model.specs.Responses.{next}
use Rattle.model.specs.Laws.{Laws}

module _ (L : Language) where
  open L use {Form, Reading, read, print}

  pub data Step (s : State L) (c : Call L) : Type 0 where
    declines : (n at : ℕ) → (n ≡ 4 → ⊥) → respond L s c ≡ refuse L n at s → Step s c
    opens : (r : List Reading) → c.request ≡ Open r → length r ≤ table_readings → respond L s c ≡ record { answer = opened; state = start L r } → Step s c
    edits : (ps t : List ℕ) (order places : List Form) (whole : Form) → c.request ≡ Edit ps t → length t ≤ text_bytes → text_parts ≤ length ps
        → read t ≡ parts order places whole → length (hold_all L order s.entries) ≤ table_entries
        → respond L s c ≡ edited_to L s (hold_all L order s.entries) places whole → Step s c
    previews : (n a : ℕ) (f : Form) → c.request ≡ Preview n a → get_elem? (forms L s.entries) n ≡ some f → respond L s c ≡ previewed L s a f
        → Step s c
    prints : (n : ℕ) (bs t : List ℕ) → c.request ≡ Print n bs → respond L s c ≡ record { answer = printed t; state = s } → Step s c

  -- what a call comes to
  pub accepts-open : (s : State L) (r : List Reading) → length r ≤ table_readings → on_request L s true (Open r) ≡ record { answer = opened; state = start L r }
  unfolding on_request on_open
  accepts-open s r h = rw (le-ltb table_readings (length r) h)

  pub declines-open : (s : State L) (b : Bool) (r : List Reading) → table_readings < length r → on_request L s b (Open r) ≡ refuse L 2 0 s
  unfolding on_request on_open
  declines-open s b r h = rw (lt-ltb table_readings (length r) h)

  pub accepts-edit : (s : State L) (ps t : List ℕ) (order places : List Form) (whole : Form) → length t ≤ text_bytes → text_parts ≤ length ps
      → read t ≡ parts order places whole
      → length (hold_all L order s.entries) ≤ table_entries
      → on_request L s true (Edit ps t) ≡ edited_to L s (hold_all L order s.entries) places whole
  unfolding on_request on_edit bind
  accepts-edit s ps t order places whole h p e z =
      rw (le-ltb text_bytes (length t) h, le-ltb (length ps) text_parts p) (ap (bind L s) e ∙ rw (le-ltb table_entries (length (hold_all L order s.entries)) z))

  pub accepts-preview : (s : State L) (n a : ℕ) (f : Form) → get_elem? (forms L s.entries) n ≡ some f
      → on_request L s true (Preview n a) ≡ previewed L s a f
  unfolding on_request on_preview look
  accepts-preview s n a f e = ap (look L s a) e

  -- too little memory: the state stays
  pub short-next : (s : State L) (q : Request L) → next L s (record { enough = false; request = q }) ≡ s
  unfolding on_request on_open on_edit on_preview on_print
  short-next s (Open r) = split (ltb table_readings (length r)) (λ p. rw (p, next)) (λ p. rw (p, next))
  short-next s (Edit ps t) = split (ltb text_bytes (length t)) (λ p. rw (p, next)) (λ p. rw (p, next))
  short-next s (Preview n a) = refl
  short-next s (Print n bs) = refl

  module _ (H : Laws L) where
    step-open : (s : State L) (b : Bool) (r : List Reading) → Step s (record { enough = b; request = Open r })
    unfolding on_request on_open
    step-open s b r =
        split (ltb table_readings (length r)) (λ p. declines 2 0 (omega arith) (rw p))
        (λ p. split b (λ q. opens r refl (ltb-false _ _ p) (rw (p, q))) (λ q. declines 3 0 (omega arith) (rw (p, q))))

    step-edit : (s : State L) (b : Bool) (ps t : List ℕ) → Step s (record { enough = b; request = Edit ps t })
    unfolding on_request on_edit bind
    step-edit s b ps t =
        split (ltb text_bytes (length t)) (λ p. declines 1 0 (omega arith) (rw p))
        (λ p. split (not b || ltb (length ps) text_parts) (λ q. declines 3 0 (omega arith) (rw (p, q)))
        (λ q. go (ltb-false _ _ p) (ltb-false _ _ ((neither (not b) (ltb (length ps) text_parts)).0 q).1) (rw (p, q)) (read t) refl))
      where
        go : length t ≤ text_bytes → text_parts ≤ length ps → on_request L s b (Edit ps t) ≡ bind L s (read t) → (x : Parsed Form) → read t ≡ x
            → Step s (record { enough = b; request = Edit ps t })
        go short room h (rejected n at) e = declines n at (let z = (H.rejected t n at short e).least in omega arith) (h ∙ ap (bind L s) e)
        go short room h (parts order places whole) e =
            split (ltb table_entries (length (hold_all L order s.entries)))
            (λ u. declines 13 0 (omega arith) (h ∙ ap (bind L s) e ∙ rw u))
            (λ u. edits ps t order places whole refl short room e (ltb-false _ _ u) (h ∙ ap (bind L s) e ∙ rw u))

    step-preview : (s : State L) (b : Bool) (n a : ℕ) → Step s (record { enough = b; request = Preview n a })
    unfolding on_request on_preview look
    step-preview s b n a = split b (λ q. go (rw q) (get_elem? (forms L s.entries) n) refl) (λ q. declines 3 0 (omega arith) (rw q))
      where
        go : on_request L s b (Preview n a) ≡ look L s a (get_elem? (forms L s.entries) n) → (x : Option Form)
            → get_elem? (forms L s.entries) n ≡ x → Step s (record { enough = b; request = Preview n a })
        go h none e = declines 14 0 (omega arith) (h ∙ ap (look L s a) e)
        go h (some f) e = previews n a f refl e (h ∙ ap (look L s a) e)

    step-print : (s : State L) (b : Bool) (n : ℕ) (bs : List ℕ) → Step s (record { enough = b; request = Print n bs })
    unfolding on_request on_print print_found printing
    step-print s b n bs = split b (λ q. go (rw q) (get_elem? (forms L s.entries) n) refl) (λ q. declines 3 0 (omega arith) (rw q))
      where
        go : on_request L s b (Print n bs) ≡ print_found L s (length bs) (get_elem? (forms L s.entries) n) → (x : Option Form)
            → get_elem? (forms L s.entries) n ≡ x → Step s (record { enough = b; request = Print n bs })
        go h none e = declines 14 0 (omega arith) (h ∙ ap (print_found L s (length bs)) e)
        go h (some f) e =
            let t = print f in
            split (ltb (length bs) (length t) || (ltb text_bytes (length t) || rejects L (read t)))
            (λ u. declines 15 0 (omega arith) (h ∙ ap (print_found L s (length bs)) e ∙ rw u))
            (λ u. split (reads_as L f (read t))
            (λ v. prints n bs t refl (h ∙ ap (print_found L s (length bs)) e ∙ rw (u, v)))
            (λ v. declines 16 0 (omega arith) (h ∙ ap (print_found L s (length bs)) e ∙ rw (u, v))))

    step-request : (s : State L) (b : Bool) (q : Request L) → Step s (record { enough = b; request = q })
    step-request s b (Open r) = step-open s b r
    step-request s b (Edit ps t) = step-edit s b ps t
    step-request s b (Preview n a) = step-preview s b n a
    step-request s b (Print n bs) = step-print s b n bs

    pub step : (s : State L) (c : Call L) → Step s c
    step s c = step-request s c.enough c.request
