-- Values of a line, level by level: lists that grow at their end, and inserted members.
use Rattle.proof_prelude.proofs.{◌≡◌, ℕ, List, [], ◌∷◌, ◌++◌, Option, Some, None, Ordering, Less, Equal, Greater, nat_cmp, Bor, refl, ap, rules, match_ordering, slice_cmp}
use Rattle.json.specs.Token.{Token}
use Rattle.json.specs.Json.{parse_map}
use Rattle.serde_json.specs.Data.{array, object, Items, no_items, item, member, put}
use Rattle.json_values.specs.{line_view, line_items, line_members, Entry, put_entry, LineValue, Array, Object, the_lemmas}

abbrev pub Named : Type 0
Named = Entry LineValue

pub view-Array : (v : Bor (List LineValue)) → line_view (Array v) ≡ array (line_items v.now)
view-Array v = search (rules, the_lemmas)

pub view-Object : (v : Bor (List Named)) → line_view (Object v) ≡ object (line_members v.now)
view-Object v = search (rules, the_lemmas)

-- appends the data of values
abbrev pub items_onto : List LineValue → Items → Items
items_onto [] more = more
items_onto (v ∷ vs) more = item (line_view v) (items_onto vs more)

pub items_onto-no_items : (vs : List LineValue) → items_onto vs no_items ≡ line_items vs
items_onto-no_items [] = refl
items_onto-no_items (v ∷ vs) = ap (item (line_view v)) (items_onto-no_items vs)

items_onto-item : (vs : List LineValue) (v : LineValue) (more : Items) → items_onto vs (item (line_view v) more) ≡ items_onto (vs ++ v ∷ []) more
items_onto-item [] v more = refl
items_onto-item (w ∷ vs) v more = ap (item (line_view w)) (items_onto-item vs v more)

pub parse_map-items_onto : (vs : List LineValue) (v : LineValue) (o : Option (Items × List Token)) → parse_map (items_onto vs) (parse_map (item (line_view v)) o) ≡ parse_map (items_onto (vs ++ v ∷ [])) o
parse_map-items_onto vs v None = refl
parse_map-items_onto vs v (Some p) = ap (λ ds. Some (ds, p.1)) (items_onto-item vs v p.0)

-- ---- members

-- the data of an inserted member
pub members-put : (name : Bor (List ℕ)) (v : LineValue) (es : List Named) → line_members (put_entry name v es) ≡ put name.now (line_view v) (line_members es)
members-put name v [] = refl
members-put name v (e ∷ es) = by (slice_cmp nat_cmp name.now e.0.now) (members-put name v es)
  where
    by : (o : Ordering) → line_members (put_entry name v es) ≡ put name.now (line_view v) (line_members es)
        → line_members (match_ordering o ((name, v) ∷ e ∷ es) ((e.0, v) ∷ es) (e ∷ put_entry name v es))
        ≡ match_ordering o (member name.now (line_view v) (member e.0.now (line_view e.1) (line_members es))) (member e.0.now (line_view v) (line_members es)) (member e.0.now (line_view e.1) (put name.now (line_view v) (line_members es)))
    by Less more = refl
    by Equal more = refl
    by Greater more = ap (member e.0.now (line_view e.1)) more
