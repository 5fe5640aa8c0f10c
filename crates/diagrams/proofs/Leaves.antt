-- Documents and their leaves.
use Rattle.proof_prelude.proofs.{◌≡◌, ℕ, ◌==◌, Bool, true, false, List, [], ◌∷◌, ◌++◌, length, map, refl, ap, subst, ◌∙◌, Result, Ok, Err, OnOk, Option, Some, None, arith, IsPermutation, string_bytes, map-append, nat_tests}
use Rattle.rev_core.specs.{RevId}
use Rattle.output_parser.specs.{Told, Tells}
use Rattle.diagrams.specs.{Document, Leaf, Form, Whole, Draws, Sign, signs_of, with_told}
use Rattle.diagrams.specs.Drawing.{IsDrawn, IsNext, IsPicture, Sketch, State, Takes, state_of, states, whole, with_leaf}

state_is : (r s : RevId) (a b c d : Bool) → r ≡ s → a ≡ b → c ≡ d → Path State (r, a, c) (s, b, d)
state_is r s a b c d p q o = λ i. (p i, q i, o i)

pub added : (leaves : List Leaf) (l m : Leaf) → m.rev ≡ l.rev → m.live ≡ l.live → m.wins ≡ (length leaves == 0) → map state_of (leaves ++ m ∷ []) ≡ with_leaf (map state_of leaves) l.rev l.live
added [] l m r v w = ap (λ (s : State). s ∷ []) (state_is m.rev l.rev m.wins true m.live l.live r w v)
added (x ∷ xs) l m r v is =
    let w : m.wins ≡ false = is ∙ grind (arith, nat_tests) in
    ap (λ (ss : List State). state_of x ∷ ss) (map-append state_of xs (m ∷ [])
    ∙ ap (λ (s : State). map state_of xs ++ s ∷ []) (state_is m.rev l.rev m.wins false m.live l.live r w v))

pub picture_by : {T E : Type 0} (r : Result T E) (form : Form) (db : Option (List ℕ)) (d s : Document) (a b : List ℕ) → a ≡ [] → IsPermutation (states d) (states s) → s.id ≡ d.id → OnOk r (Draws a b (signs_of form db (string_bytes s.id) s.leaves.items)) → OnOk r (IsPicture form db d b)
picture_by (Ok x) form db d s a b e each same h = record {
  leaves = s.leaves.items;
  each = each;
  draws = subst (λ (t : List ℕ). Draws t b (signs_of form db (string_bytes d.id) s.leaves.items)) e
      (subst (λ i. Draws a b (signs_of form db (string_bytes i) s.leaves.items)) same h);
}
picture_by (Err x) form db d s a b e each same h = tt

-- if an item is complete, no document is open
pub none_open : (old new : Option Document) (t : Told) (w : Whole) → IsNext old t new (Some w) → new ≡ None
none_open old new t w (whole r h k n low) = refl
none_open old new t w _ = refl

-- from an empty text on
pub draws_new : {T E : Type 0} (r : Result T E) (signs : List Sign) (a b : List ℕ) → a ≡ [] → OnOk r (Draws a b signs) → OnOk r (Draws [] b signs)
draws_new r signs a b e h = subst (λ (t : List ℕ). OnOk r (Draws t b signs)) e h

pub takes_by : {T E : Type 0} (r : Result T E) (old new : Sketch) (line text : List ℕ) (t : Told) (d : Option Whole) → Tells line t → IsNext old.begun t new.begun d → new.form ≡ old.form → new.db ≡ old.db → new.tally ≡ with_told old.tally t → OnOk r (IsDrawn old.form old.db d text) → OnOk r (Takes old line new text)
takes_by (Ok x) old new line text t d tells next f g n h = record { told = t; whole = d; tells = tells; next = next; drawn = h; form = f; db = g; tally = n }
takes_by (Err x) old new line text t d tells next f g n h = tt
