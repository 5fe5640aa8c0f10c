-- The texts of lists.
use Rattle.proof_prelude.proofs.{◌≡◌, ℕ, ◌+◌, ◌<◌, ◌≤◌, List, [], ◌∷◌, ◌++◌, length, take, get_or, map, sym, ap, ◌∙◌, append_assoc, append-nil, arith, flat_map-append, join_with_byte, take_more, map-append, flat_map}
use Rattle.rev_core.specs.{RevId, rev_text}
use Rattle.command_api.specs.{texts_of_revs}

join-push : (c : ℕ) (x y : List ℕ) (xs : List (List ℕ)) → join_with_byte c ((x ∷ xs) ++ y ∷ []) ≡ (join_with_byte c (x ∷ xs) ++ c ∷ []) ++ y
join-push c x y [] = sym (append_assoc x (c ∷ []) y)
join-push c x y (z ∷ xs) =
    ap (λ t. x ++ (c ∷ t)) (join-push c z y xs)
    ∙ ap (λ t. x ++ (c ∷ t)) (append_assoc (join_with_byte c (z ∷ xs)) (c ∷ []) y)
    ∙ sym (append_assoc x (c ∷ join_with_byte c (z ∷ xs)) (c ∷ y))
    ∙ sym (append_assoc (x ++ (c ∷ join_with_byte c (z ∷ xs))) (c ∷ []) y)

texts-push : (revs : List RevId) (rev : RevId) → 0 < length revs → texts_of_revs (revs ++ rev ∷ []) ≡ (texts_of_revs revs ++ 44 ∷ []) ++ rev_text rev
texts-push [] rev h = absurd (omega arith)
texts-push (r ∷ revs) rev h = ap (join_with_byte 44) (map-append rev_text (r ∷ revs) (rev ∷ [])) ∙ join-push 44 (rev_text r) (rev_text rev) (map rev_text revs)

-- one more, after a comma
pub texts-more : (revs : List RevId) (i : ℕ) (rev : RevId) → 0 < i → i < length revs → rev ≡ get_or revs i rev → texts_of_revs (take (i + 1) revs) ≡ (texts_of_revs (take i revs) ++ 44 ∷ []) ++ rev_text rev
texts-more revs i rev some h e =
    ap texts_of_revs (take_more revs i rev h ∙ ap (λ r. take i revs ++ r ∷ []) (sym e))
    ∙ texts-push (take i revs) rev (grind (arith, Rattle.std.proofs.lemmas.Grind.common_steps))

-- the first
pub texts-first : (old : List ℕ) (revs : List RevId) (i : ℕ) (rev : RevId) → i ≤ 0 → i < length revs → rev ≡ get_or revs i rev → (old ++ texts_of_revs (take i revs)) ++ rev_text rev ≡ old ++ texts_of_revs (take (i + 1) revs)
texts-first old revs i rev z h e =
    let none : i ≡ 0 = omega arith in
    ap (λ n. (old ++ texts_of_revs (take n revs)) ++ rev_text rev) none
    ∙ append_assoc old [] (rev_text rev)
    ∙ ap (λ n. old ++ texts_of_revs (take n revs ++ rev ∷ [])) (sym none)
    ∙ ap (λ rs. old ++ texts_of_revs rs) (sym (take_more revs i rev h ∙ ap (λ r. take i revs ++ r ∷ []) (sym e)))

-- the rows of a page, and those after it
pub texts_step : {X : Type 0} (f : X → List ℕ) (text next all : List ℕ) (rows rest whole : List X) → rows ++ rest ≡ whole → text ++ flat_map f whole ≡ all → next ≡ text ++ flat_map f rows → next ++ flat_map f rest ≡ all
texts_step f text next all rows rest whole e h n =
    ap (λ t. t ++ flat_map f rest) n ∙ append_assoc text (flat_map f rows) (flat_map f rest)
    ∙ ap (λ t. text ++ t) (sym (flat_map-append f rows rest) ∙ ap (flat_map f) e) ∙ h

-- two parts in order
pub two_parts : (old mid new a b : List ℕ) → mid ≡ old ++ a → new ≡ mid ++ b → new ≡ old ++ (a ++ b)
two_parts old mid new a b m n = n ∙ ap (λ t. t ++ b) m ∙ append_assoc old a b

-- one more row is printed
pub rows_more : {X : Type 0} (f : X → List ℕ) (text : List ℕ) (rows : List X) (i : ℕ) (row : X) → i < length rows → row ≡ get_or rows i row → (text ++ flat_map f (take i rows)) ++ f row ≡ text ++ flat_map f (take (i + 1) rows)
rows_more f text rows i row below is =
    append_assoc text (flat_map f (take i rows)) (f row)
    ∙ ap (λ t. text ++ t)
    (ap (λ t. flat_map f (take i rows) ++ t) (sym (append-nil (f row)))
    ∙ sym (flat_map-append f (take i rows) (row ∷ []))
    ∙ ap (flat_map f) (ap (λ r. take i rows ++ r ∷ []) is ∙ sym (take_more rows i row below)))

-- one more row is counted
pub list_more : {X : Type 0} (earlier rows : List X) (i : ℕ) (row : X) → i < length rows → row ≡ get_or rows i row → (earlier ++ take i rows) ++ row ∷ [] ≡ earlier ++ take (i + 1) rows
list_more earlier rows i row below is =
    append_assoc earlier (take i rows) (row ∷ []) ∙ ap (λ l. earlier ++ l) (ap (λ r. take i rows ++ r ∷ []) is ∙ sym (take_more rows i row below))

-- rows are printed, and the text after them is left
pub piece_on : {X : Type 0} (f f' : X → List ℕ) (old new last : List ℕ) (rows rows' : List X) → new ++ flat_map f' rows' ≡ old ++ flat_map f rows → f' ≡ f → new ++ (flat_map f rows' ++ last) ≡ old ++ (flat_map f rows ++ last)
piece_on f f' old new last rows rows' e k =
    sym (append_assoc new (flat_map f rows') last)
    ∙ ap (λ g. (new ++ flat_map g rows') ++ last) (sym k)
    ∙ ap (λ t. t ++ last) e
    ∙ append_assoc old (flat_map f rows) last

-- all rows are printed, and the text after them
pub piece_last : {X : Type 0} (f f' : X → List ℕ) (old new end last : List ℕ) (rows rows' : List X) → new ++ flat_map f' rows' ≡ old ++ flat_map f rows → rows' ≡ [] → end ≡ new ++ last → end ++ [] ≡ old ++ (flat_map f rows ++ last)
piece_last f f' old new end last rows rows' e n is =
    append-nil end
    ∙ is
    ∙ ap (λ t. t ++ last) (sym (append-nil new) ∙ ap (λ r. new ++ flat_map f' r) (sym n) ∙ e)
    ∙ append_assoc old (flat_map f rows) last
