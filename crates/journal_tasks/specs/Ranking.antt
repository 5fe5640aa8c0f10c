-- Defines the leaves of a document among the revisions that a list has of the document, and the rank of each leaf.
use Rattle.std.specs.Prelude.{ℕ, ◌^◌, Bool, ◌&&◌, ◌||◌, not, nat_eq, nat_lt, if◌then◌else◌, List, [], ◌∷◌, length, filter, fold, Option, None, Some, bytes_eq}
use Rattle.std.specs.Cmp.Lexicographic.{slice_cmp}
use Rattle.std.specs.List.{after_first, before_first, list_any}
use Rattle.std.specs.Ordering.{is_gt, nat_cmp}
use Rattle.std.specs.Str.{all_ascii_digits}
use Rattle.std.specs.Str.Parse.{digits_value, without_leading_plus}
use Rattle.journal_lines.specs.Leafs.{HeadView, knows_rev}

-- ---- the leaves of a document

-- Whether the revision `rev` is an ancestor of another one of the given revisions of a document.
abbrev pub is_ancestor : List HeadView → List ℕ → Bool
is_ancestor heads rev = list_any (λ head. not (bytes_eq head.1.0 rev) && knows_rev head.1 rev) heads

-- The leaves among the given revisions of a document: the revisions that are not ancestors of another revision.
abbrev pub leaves_among : List HeadView → List HeadView
leaves_among heads = filter (λ head. not (is_ancestor heads head.1.0)) heads

-- ---- the parts of a revision id

-- The number that a text represents, or `None` if the text is not a number below 2^64. A number consists of decimal
-- digits, and may begin with `+`.
abbrev pub number_in : List ℕ → Option ℕ
number_in text =
    let digits = without_leading_plus text in
    if nat_lt 0 (length digits) && all_ascii_digits digits && nat_lt (digits_value 10 digits) (2 ^ 64) then Some (digits_value 10 digits) else None

abbrev pub is_dash : ℕ → Bool
is_dash byte = nat_eq byte 45

-- The number before the first `-` of a revision id, or `None` if there is no `-` or no number before it.
abbrev pub generation_in : List ℕ → Option ℕ
generation_in rev = if list_any is_dash rev then number_in (before_first is_dash rev) else None

-- The generation and the signature of a revision id, given the number before the first `-`. If there is no number, the
-- generation is 0, and the signature is the complete revision id.
abbrev pub parts_by : List ℕ → Option ℕ → ℕ × List ℕ
parts_by rev None = (0, rev)
parts_by rev (Some generation) = (generation, after_first is_dash rev)

-- The generation and the signature of a revision id.
abbrev pub rev_parts : List ℕ → ℕ × List ℕ
rev_parts rev = parts_by rev (generation_in rev)

-- ---- ranks

-- Whether the generation and signature `x` rank above `y`: a greater generation ranks higher. If the generations are
-- equal, a greater signature ranks higher. Signatures are compared byte by byte.
abbrev pub is_above : ℕ × List ℕ → ℕ × List ℕ → Bool
is_above x y = nat_lt y.0 x.0 || nat_eq x.0 y.0 && is_gt (slice_cmp nat_cmp x.1 y.1)

-- Whether a leaf outranks another leaf. A live leaf outranks a deleted leaf. Of two live or two deleted leaves, the leaf
-- whose revision id ranks above outranks the other.
abbrev pub outranks : HeadView → HeadView → Bool
outranks head other =
    let above = is_above (rev_parts head.1.0) (rev_parts other.1.0) in
    if head.2 then other.2 && above else other.2 || above

-- A list of leaves, highest rank first, after adding a leaf. The added leaf precedes the first leaf that does not
-- outrank it.
abbrev pub insert_ranked : HeadView → List HeadView → List HeadView
insert_ranked head [] = head ∷ []
insert_ranked head (first ∷ rest) = if outranks first head then first ∷ insert_ranked head rest else head ∷ first ∷ rest

-- The given leaves, highest rank first. Of leaves with the same rank, the last one is first.
abbrev pub ranked : List HeadView → List HeadView
ranked heads = fold (λ before head. insert_ranked head before) [] heads
