-- The states that are stored.
use Rattle.proof_prelude.proofs.{◌≡◌, ℕ, ◌+◌, Bool, true, false, List, [], ◌∷◌, ◌++◌, drop, map, map-append, slice_get, Option, Some, option_map, bytes_eq, Global, String, string_bytes, inl, inr, refl, sym, ap, ap₂, ◌∙◌, cases_Bool, cond-true, cond-false, append_assoc, list_any, lookup}
use Rattle.std.specs.String.{string_eq}
use Rattle.indexmap.specs.IndexMap.{insert_entry}
use Rattle.journal_lines.specs.Docs.{add_rev}
use Rattle.journal_lines.specs.Lists.{texts_of}
use Rattle.journal_tasks.specs.{StateView, StatesView, put_at, state_at, state_line, state_lines, state_or_none, state_view, with_rev}
use Rattle.journal_tasks.proofs.Lookups.{any_key, at_entry}
use Rattle.journal_tasks.proofs.Stated.{put_again}
use Rattle.journal_tasks.specs.declared.state_map.State.{State}

abbrev Entries : Type 0
Entries = List (String Global × State)

abbrev entry_view : String Global × State → List ℕ × StateView
entry_view entry = (string_bytes entry.0, state_view entry.1)

-- the states after one is replaced
inserted : (es : Entries) (k : String Global) (s : State) → map entry_view (insert_entry string_eq es k s) ≡ put_at (map entry_view es) (string_bytes k) (state_view s)
inserted [] k s = refl
inserted (e ∷ es) k s =
    elim (cases_Bool (bytes_eq (string_bytes k) (string_bytes e.0))) [
      | inl hit ↦ rw hit refl
      | inr miss ↦ rw miss (ap (λ (z : StatesView). entry_view e ∷ z) (inserted es k s))
    ]

pub state_put : (es new : Entries) (k : String Global) (s : State) → new ≡ insert_entry string_eq es k s → map entry_view new ≡ put_at (map entry_view es) (string_bytes k) (state_view s)
state_put es new k s e = ap (map entry_view) e ∙ inserted es k s

found : (es : Entries) (k : String Global) → state_or_none (option_map state_view (lookup (string_eq k) es)) ≡ state_at (map entry_view es) (string_bytes k)
found [] k = refl
found (e ∷ es) k =
    elim (cases_Bool (bytes_eq (string_bytes k) (string_bytes e.0))) [
      | inl hit ↦ rw hit refl
      | inr miss ↦ rw miss (found es k)
    ]

pub state_found : (es : Entries) (k : String Global) (old : Option State) → old ≡ lookup (string_eq k) es → state_or_none (option_map state_view old) ≡ state_at (map entry_view es) (string_bytes k)
state_found es k old e = ap (λ o. state_or_none (option_map state_view o)) e ∙ found es k

-- ---- a state after one leaf more

pub rev_kept : (s : State) (rev : List ℕ) → s.named ≡ true → state_view s ≡ with_rev rev (state_view s)
rev_kept s rev h = sym (cond-true s.named (state_view s) (string_bytes s.seq, add_rev (texts_of s.revs.items) rev, false) h)

with_more : (s : State) (rev : List ℕ) → s.named ≡ false → with_rev rev (state_view s) ≡ (string_bytes s.seq, add_rev (texts_of s.revs.items) rev, s.named)
with_more s rev n =
    cond-false s.named (state_view s) (string_bytes s.seq, add_rev (texts_of s.revs.items) rev, false) n ∙ ap (λ (b : Bool). (string_bytes s.seq, add_rev (texts_of s.revs.items) rev, b)) (sym n)

pub rev_known : (s : State) (rev : List ℕ) (b : Bool) → s.named ≡ false → b ≡ list_any (λ (k : String Global). bytes_eq rev (string_bytes k)) s.revs.items → b ≡ true → state_view s ≡ with_rev rev (state_view s)
rev_known s rev b n e h =
    let revs = texts_of s.revs.items in
    sym (with_more s rev n ∙ ap (λ (z : List (List ℕ)). (string_bytes s.seq, z, s.named)) (cond-true (list_any (bytes_eq rev) revs) revs (revs ++ rev ∷ []) (sym (any_key s.revs.items rev) ∙ sym e ∙ h)))

pub rev_added : (old new : State) (r : String Global) (rev : List ℕ) (b : Bool) → old.named ≡ false → b ≡ list_any (λ (k : String Global). bytes_eq rev (string_bytes k)) old.revs.items → b ≡ false → string_bytes r ≡ rev → new.seq ≡ old.seq → new.named ≡ old.named → new.revs.items ≡ old.revs.items ++ r ∷ []
    → state_view new ≡ with_rev rev (state_view old)
rev_added old new r rev b n e h is seq named items =
    let revs = texts_of old.revs.items in
    let more : texts_of new.revs.items ≡ add_rev revs rev = ap texts_of items ∙ map-append string_bytes old.revs.items (r ∷ []) ∙ ap (λ (z : List ℕ). revs ++ z ∷ []) is ∙ sym (cond-false (list_any (bytes_eq rev) revs) revs (revs ++ rev ∷ []) (sym (any_key old.revs.items rev) ∙ sym e ∙ h)) in
    ap (λ (z : String Global). (string_bytes z, texts_of new.revs.items, new.named)) seq ∙ ap (λ (z : List (List ℕ)). (string_bytes old.seq, z, new.named)) more ∙ ap (λ (z : Bool). (string_bytes old.seq, add_rev revs rev, z)) named ∙ sym (with_more old rev n)

-- the state is taken out and put back
pub leaf_added : (old mid new : StatesView) (k k' id : List ℕ) (rev : List ℕ) (before none took after : StateView) → k ≡ id → k' ≡ id → mid ≡ put_at old k none → before ≡ state_at old k → took ≡ before → after ≡ with_rev rev took → new ≡ put_at mid k' after
    → new ≡ put_at old id (with_rev rev (state_at old id))
leaf_added old mid new k k' id rev before none took after e e' m b t a n =
    n ∙ ap₂ (λ (z : StatesView) (x : List ℕ). put_at z x after) (m ∙ ap (λ x. put_at old x none) e) e' ∙ put_again old id none after ∙ ap (put_at old id) (a ∙ ap (with_rev rev) (t ∙ b ∙ ap (state_at old) e))

-- ---- the states are written

pub state_written : (es : Entries) (i : ℕ) (k : String Global) (s : State) (seq id : List ℕ) (revs : List (String Global)) (old new all : List ℕ) → Some (k, s) ≡ slice_get es i → seq ≡ string_bytes s.seq → id ≡ string_bytes k → revs ≡ s.revs.items
    → new ≡ old ++ state_line (id, (seq, texts_of revs, s.named)) → old ++ state_lines (map entry_view (drop i es)) ≡ all → new ++ state_lines (map entry_view (drop (i + 1) es)) ≡ all
state_written es i k s seq id revs old new all entry q a b n before =
    let rest = state_lines (map entry_view (drop (i + 1) es)) in
    let is : state_line (id, (seq, texts_of revs, s.named)) ≡ state_line (entry_view (k, s)) = ap (λ (z : List ℕ). state_line (z, (seq, texts_of revs, s.named))) a ∙ ap (λ (z : List ℕ). state_line (string_bytes k, (z, texts_of revs, s.named))) q ∙ ap (λ (z : List (String Global)). state_line (string_bytes k, (string_bytes s.seq, texts_of z, s.named))) b in
    ap (λ z. z ++ rest) (n ∙ ap (λ z. old ++ z) is) ∙ append_assoc old (state_line (entry_view (k, s))) rest ∙ ap (λ (l : Entries). old ++ state_lines (map entry_view l)) (sym (at_entry es i (k, s) (sym entry))) ∙ before
