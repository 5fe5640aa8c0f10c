use Rattle.proof_prelude.proofs.{List, false, ◌≡◌, ◌-◌, ◌<◌, [], ◌∷◌, length, Some, None, sym, ap, subst, ◌∙◌, arith, rules}
use Rattle.json.specs.Token.{Token}
use Rattle.json.specs.Json.{parse_map, after_end_array, read_key, items, members, value}
use Rattle.json.specs.Reads.{token_of}
use Rattle.json.proofs.Grammar.{value_is, read_key-shorter}
use Rattle.serde_json.specs.Data.{null, boolean, number, string, array, object}
use Rattle.serde_json.specs.Read.{of_json, of_items, of_members, converted, number_of}
use Rattle.serde_json.specs.View.{number_view}
use Rattle.json_values.specs.{line_view, line_items, line_members, LineValue, String, Number, Bool, Null, the_lemmas, AreItemsPlain, AreMembersPlain, Narrows, IsRising, entries_of, begins_key}
use Rattle.json_values.proofs.{narrows_on, items_still, members_still, items_more, members_more, rising_none, rising_put, items-one, items-refused, items-none, members-one, members-refused, members-no_key, members-none, Named, members-put, view-Object, items_onto, items_onto-no_items, parse_map-items_onto, endless, neither, read-nothing, read-string, read-number, read-boolean, read-null, read-array, read-object, read-deep_array, read-deep_object}
use Rattle.json_values.proofs.values.+read.Goals as goal

pub read_value-returns-in-Ok-Some-clause-ok : goal.read_value-returns-in-Ok-Some-clause-ok
read_value-returns-in-Ok-Some-clause-ok t c =
    let text = c.in-Ok-Some.text in
    let left = c.take_text.new.self.tokens in
    let is : c.args.reader.now.tokens ≡ Token.string text.now ∷ left = grind arith in
    let seen : line_view (String text) ≡ string text.now = search (rules, the_lemmas) in
    ap (λ ts. converted of_json (value c.args.depth ts)) is ∙ read-string c.args.depth left text.now ∙ ap (λ d. Some (d, left)) (sym seen)

pub read_no_text-returns-in-Some-clause-ok : goal.read_no_text-returns-in-Some-clause-ok
read_no_text-returns-in-Some-clause-ok t c =
    let e = c.in-Some.ensures.number in
    let left = c.take_integer.new.self.tokens in
    let seen : line_view (Number c.in-Some.number) ≡ number (number_view c.in-Some.number) = search (rules, the_lemmas) in
    let counted : number_of e.0 ≡ Some (number_view c.in-Some.number) = e.2 in
    ap (λ ts. converted of_json (value c.args.depth ts)) e.1 ∙ read-number c.args.depth left e.0 ∙ rw (counted, seen)

pub read_other-returns-in_default-clause-refused : goal.read_other-returns-in_default-clause-refused
read_other-returns-in_default-clause-refused t c refused =
    let empty : c.args.reader.now.tokens ≡ [] = grind arith in
    ap (λ ts. converted of_json (value c.args.depth ts)) empty ∙ read-nothing c.args.depth []

pub read_other-returns-then-depth-eq0-clause-refused : goal.read_other-returns-then-depth-eq0-clause-refused
read_other-returns-then-depth-eq0-clause-refused t c refused =
    let first : c.args.reader.now.tokens ≡ token_of c.in-Some.token ∷ c.next.new.self.tokens = grind arith in
    let is = first ∙ ap (λ k. token_of k ∷ c.next.new.self.tokens) c.in-BeginArray.is in
    ap (λ ts. converted of_json (value c.args.depth ts)) is ∙ read-deep_array c.args.depth c.next.new.self.tokens (omega arith)

pub read_other-returns-in_err-items-in-BeginArray-clause-refused : goal.read_other-returns-in_err-items-in-BeginArray-clause-refused
read_other-returns-in_err-items-in-BeginArray-clause-refused t c refused =
    let first : c.args.reader.now.tokens ≡ token_of c.in-Some.token ∷ c.next.new.self.tokens = grind arith in
    let is = first ∙ ap (λ k. token_of k ∷ c.next.new.self.tokens) c.in-BeginArray.is in
    ap (λ ts. converted of_json (value c.args.depth ts)) is ∙ read-array c.args.depth c.next.new.self.tokens (omega arith) ∙ ap (parse_map array) (c.read_items.ensures.refused (grind arith))

pub read_other-returns-then-depth-eq0-2-clause-refused : goal.read_other-returns-then-depth-eq0-2-clause-refused
read_other-returns-then-depth-eq0-2-clause-refused t c refused =
    let first : c.args.reader.now.tokens ≡ token_of c.in-Some.token ∷ c.next.new.self.tokens = grind arith in
    let is = first ∙ ap (λ k. token_of k ∷ c.next.new.self.tokens) c.in-BeginObject.is in
    ap (λ ts. converted of_json (value c.args.depth ts)) is ∙ read-deep_object c.args.depth c.next.new.self.tokens (omega arith)

pub read_other-returns-in_err-read_members-in-BeginObject-clause-refused : goal.read_other-returns-in_err-read_members-in-BeginObject-clause-refused
read_other-returns-in_err-read_members-in-BeginObject-clause-refused t c refused =
    let first : c.args.reader.now.tokens ≡ token_of c.in-Some.token ∷ c.next.new.self.tokens = grind arith in
    let is = first ∙ ap (λ k. token_of k ∷ c.next.new.self.tokens) c.in-BeginObject.is in
    ap (λ ts. converted of_json (value c.args.depth ts)) is ∙ read-object c.args.depth c.next.new.self.tokens (omega arith) ∙ ap (parse_map object) (c.read_members.ensures.refused (grind arith))

pub read_other-returns-in-String-clause-ok : goal.read_other-returns-in-String-clause-ok
read_other-returns-in-String-clause-ok t c =
    let first : c.args.reader.now.tokens ≡ token_of c.in-Some.token ∷ c.next.new.self.tokens = grind arith in
    let is : c.args.reader.now.tokens ≡ Token.string c.in-String.text.now ∷ c.next.new.self.tokens = grind (arith, first) in
    let seen : line_view (String c.in-String.text) ≡ string c.in-String.text.now = search (rules, the_lemmas) in
    ap (λ ts. converted of_json (value c.args.depth ts)) is ∙ read-string c.args.depth c.next.new.self.tokens c.in-String.text.now ∙ ap (λ d. Some (d, c.next.new.self.tokens)) (sym seen)

pub read_other-returns-in-Some-read_number-clause-ok : goal.read_other-returns-in-Some-read_number-clause-ok
read_other-returns-in-Some-read_number-clause-ok t c =
    let first : c.args.reader.now.tokens ≡ token_of c.in-Some.token ∷ c.next.new.self.tokens = grind arith in
    let is : c.args.reader.now.tokens ≡ Token.number c.in-Number.text.now ∷ c.next.new.self.tokens = grind (arith, first) in
    let seen : line_view (Number c.in-Some-read_number.number) ≡ number (number_view c.in-Some-read_number.number) = search (rules, the_lemmas) in
    let counted : number_of c.in-Number.text.now ≡ Some (number_view c.in-Some-read_number.number) = sym c.in-Some-read_number.ensures in
    ap (λ ts. converted of_json (value c.args.depth ts)) is ∙ read-number c.args.depth c.next.new.self.tokens c.in-Number.text.now ∙ rw (counted, seen)

pub read_other-returns-in-None-clause-refused : goal.read_other-returns-in-None-clause-refused
read_other-returns-in-None-clause-refused t c refused =
    let first : c.args.reader.now.tokens ≡ token_of c.in-Some.token ∷ c.next.new.self.tokens = grind arith in
    let is : c.args.reader.now.tokens ≡ Token.number c.in-Number.text.now ∷ c.next.new.self.tokens = grind (arith, first) in
    let none : number_of c.in-Number.text.now ≡ None = sym c.in-None.ensures in
    ap (λ ts. converted of_json (value c.args.depth ts)) is ∙ read-number c.args.depth c.next.new.self.tokens c.in-Number.text.now ∙ rw none

pub read_other-returns-in-Bool-clause-ok : goal.read_other-returns-in-Bool-clause-ok
read_other-returns-in-Bool-clause-ok t c =
    let first : c.args.reader.now.tokens ≡ token_of c.in-Some.token ∷ c.next.new.self.tokens = grind arith in
    let is : c.args.reader.now.tokens ≡ Token.boolean c.in-Bool.b ∷ c.next.new.self.tokens = grind (arith, first) in
    let seen : line_view (Bool c.in-Bool.b) ≡ boolean c.in-Bool.b = search (rules, the_lemmas) in
    ap (λ ts. converted of_json (value c.args.depth ts)) is ∙ read-boolean c.args.depth c.next.new.self.tokens c.in-Bool.b ∙ ap (λ d. Some (d, c.next.new.self.tokens)) (sym seen)

pub read_other-returns-in-Null-clause-ok : goal.read_other-returns-in-Null-clause-ok
read_other-returns-in-Null-clause-ok t c =
    let first : c.args.reader.now.tokens ≡ token_of c.in-Some.token ∷ c.next.new.self.tokens = grind arith in
    let is : c.args.reader.now.tokens ≡ Token.null ∷ c.next.new.self.tokens = grind (arith, first) in
    let seen : line_view Null ≡ null = search (rules, the_lemmas) in
    ap (λ ts. converted of_json (value c.args.depth ts)) is ∙ read-null c.args.depth c.next.new.self.tokens ∙ ap (λ d. Some (d, c.next.new.self.tokens)) (sym seen)

pub read_other-returns-in-EndObject-clause-refused : goal.read_other-returns-in-EndObject-clause-refused
read_other-returns-in-EndObject-clause-refused t c refused =
    let first : c.args.reader.now.tokens ≡ token_of c.in-Some.token ∷ c.next.new.self.tokens = grind arith in
    let none : value c.args.depth c.args.reader.now.tokens ≡ None = rw (value_is c.args.depth c.args.reader.now.tokens, first) (grind arith) in
    ap (converted of_json) none

pub read_other-returns-in_ok-array-in-BeginArray-clause-ok : goal.read_other-returns-in_ok-array-in-BeginArray-clause-ok
read_other-returns-in_ok-array-in-BeginArray-clause-ok t c =
    let first : c.args.reader.now.tokens ≡ token_of c.in-Some.token ∷ c.next.new.self.tokens = grind arith in
    let is = first ∙ ap (λ k. token_of k ∷ c.next.new.self.tokens) c.in-BeginArray.is in
    let kept = c.in_ok-array-in-BeginArray.ensures ∙ ap (λ vs. array (line_items vs)) c.deref.ensures.value in
    ap (λ ts. converted of_json (value c.args.depth ts)) is ∙ read-array c.args.depth c.next.new.self.tokens (omega arith) ∙ ap (parse_map array) c.in_ok-items-in-BeginArray.ensures.ok
    ∙ ap (λ d. Some (d, c.read_items.new.reader.tokens)) (sym kept)

pub read_other-returns-in_ok-read_members-in-BeginObject-clause-ok : goal.read_other-returns-in_ok-read_members-in-BeginObject-clause-ok
read_other-returns-in_ok-read_members-in-BeginObject-clause-ok t c =
    let first : c.args.reader.now.tokens ≡ token_of c.in-Some.token ∷ c.next.new.self.tokens = grind arith in
    let is = first ∙ ap (λ k. token_of k ∷ c.next.new.self.tokens) c.in-BeginObject.is in
    let found = c.in_ok-read_members-in-BeginObject in
    ap (λ ts. converted of_json (value c.args.depth ts)) is ∙ read-object c.args.depth c.next.new.self.tokens (omega arith) ∙ ap (parse_map object) found.ensures.ok
    ∙ ap (λ d. Some (d, c.read_members.new.reader.tokens)) (sym (view-Object found.field-0))

pub read_items-returns-in_err-item-clause-refused : goal.read_items-returns-in_err-item-clause-refused
read_items-returns-in_err-item-clause-refused t c refused =
    let l = c.items in
    let going : (after_end_array l.reader.tokens ≡ None) × (c.take_end_array.new.self ≡ l.reader) = grind arith in
    let none : converted of_json (value c.args.depth l.reader.tokens) ≡ None = rw (← going.1) (c.read_value.ensures.refused (grind arith)) in
    l.invariant.3 ∙ ap (parse_map (items_onto l.found.items)) (items-refused (value c.args.depth) l.invariant.0 l.reader.tokens going.0 none)

pub read_items-items-preserved : goal.read_items-items-preserved
read_items-items-preserved t c =
    let l = c.items in
    let turns = l.invariant.0 in
    let going : (after_end_array l.reader.tokens ≡ None) × (c.take_end_array.new.self ≡ l.reader) = grind arith in
    let v = c.in_ok-item.item in
    let left = c.read_value.new.reader.tokens in
    let after = c.read_value.new.reader.plain in
    let narrows : Narrows l.reader.plain after = rw (← going.1) c.in_ok-item.ensures.plain.0 in
    let less : length left < length l.reader.tokens = rw (← going.1) c.in_ok-item.ensures.shorter in
    let one = items-one (value c.args.depth) turns l.reader.tokens left (line_view v) (omega (arith, l.invariant.1)) going.0 (rw (← going.1) c.in_ok-item.ensures.ok) in (
      turns - 1,
      omega (arith, l.invariant.1),
      omega (arith, l.invariant.2),
      l.invariant.3 ∙ ap (parse_map (items_onto l.found.items)) one ∙ parse_map-items_onto l.found.items v _
          ∙ ap (λ vs. parse_map (items_onto vs) (converted of_items (items (value c.args.depth) (turns - 1) left))) (sym c.in_ok-push.ensures.items),
      narrows_on _ _ _ l.invariant.4 narrows,
      subst (λ vs. AreItemsPlain after (line_items vs)) (sym c.in_ok-push.ensures.items) (items_more after l.found.items v (items_still l.reader.plain after narrows _ l.invariant.5) c.in_ok-item.ensures.plain.1),
    )

pub read_items-returns-clause-ok : goal.read_items-returns-clause-ok
read_items-returns-clause-ok t c =
    let l = c.items in
    let left = c.take_end_array.new.self.tokens in
    l.invariant.3 ∙ ap (parse_map (items_onto l.found.items)) (items-none (value c.args.depth) l.invariant.0 l.reader.tokens left l.invariant.1 (grind arith))
    ∙ ap (λ ds. Some (ds, left)) (items_onto-no_items l.found.items)

pub read_members-members-init : goal.read_members-members-init
read_members-members-init t c =
    let none = sym c.in_ok-found.ensures in (
      length c.args.reader.now.tokens,
      omega arith,
      omega arith,
      ap (λ (es : List Named). converted (λ ms. of_members ms (line_members es)) (members (value c.args.depth) (length c.args.reader.now.tokens) c.args.reader.now.tokens)) none,
      subst (λ (es : List Named). IsRising es) none (rising_none LineValue),
      (λ known. known, λ known. known),
      subst (λ (es : List Named). AreMembersPlain c.args.reader.now.plain (line_members es)) none tt,
    )

pub read_members-returns-in_err-all-clause-refused : goal.read_members-returns-in_err-all-clause-refused
read_members-returns-in_err-all-clause-refused t c refused =
    let l = c.members in
    let kept : (begins_key l.reader.tokens ≡ false) × (read_key c.take_key.new.self.tokens ≡ read_key l.reader.tokens) = grind arith in
    let none : read_key l.reader.tokens ≡ None = neither l.reader.tokens kept.0 (λ ts e. endless c.take_key.new.self.tokens (c.end_members.ensures.refused (grind arith)) ts (kept.1 ∙ e)) in
    l.invariant.3 ∙ members-no_key (value c.args.depth) (line_members (entries_of l.found)) l.invariant.0 l.reader.tokens none

pub read_members-returns-in_default-clause-ok : goal.read_members-returns-in_default-clause-ok
read_members-returns-in_default-clause-ok t c =
    let l = c.members in
    let left = c.end_members.new.reader.tokens in
    let kept : (begins_key l.reader.tokens ≡ false) × (read_key c.take_key.new.self.tokens ≡ read_key l.reader.tokens) = grind arith in
    l.invariant.3 ∙ members-none (value c.args.depth) (line_members (entries_of l.found)) l.invariant.0 l.reader.tokens left l.invariant.1 (sym kept.1 ∙ c.in_ok-all.ensures.ok)
    ∙ ap (λ (es : List Named). Some (line_members es, left)) (sym c.in_ok-all.ensures.found)

pub read_members-returns-in_default-clause-plain : goal.read_members-returns-in_default-clause-plain
read_members-returns-in_default-clause-plain t c =
    let l = c.members in
    let left = c.end_members.new.reader.plain in
    let narrows : Narrows l.reader.plain left = subst (λ p. Narrows l.reader.plain p) (sym c.in_ok-all.ensures.plain) c.take_key.ensures.plain.0 in (
      narrows_on _ _ _ l.invariant.5 narrows,
      subst (λ (es : List Named). AreMembersPlain left (line_members es)) (sym c.in_ok-all.ensures.found) (members_still l.reader.plain left narrows _ l.invariant.6),
    )

pub read_members-returns-in_err-member-clause-refused : goal.read_members-returns-in_err-member-clause-refused
read_members-returns-in_err-member-clause-refused t c refused =
    let l = c.members in
    let k = c.in-Some.name.now in
    let is : l.reader.tokens ≡ Token.key k ∷ c.take_key.new.self.tokens = grind arith in
    l.invariant.3 ∙ members-refused (value c.args.depth) (line_members (entries_of l.found)) l.invariant.0 k l.reader.tokens c.take_key.new.self.tokens (ap read_key is) (c.read_value.ensures.refused (grind arith))

pub read_members-members-preserved : goal.read_members-members-preserved
read_members-members-preserved t c =
    let l = c.members in
    let turns = l.invariant.0 in
    let k = c.in-Some.name.now in
    let after = c.take_key.new.self.tokens in
    let is : l.reader.tokens ≡ Token.key k ∷ after = grind arith in
    let named : read_key l.reader.tokens ≡ Some (Some k, after) = ap read_key is in
    let v = c.in_ok-member.member in
    let left = c.read_value.new.reader.tokens in
    let last = c.read_value.new.reader.plain in
    let narrows : Narrows l.reader.plain last = narrows_on _ _ _ c.take_key.ensures.plain.0 c.in_ok-member.ensures.plain.0 in
    let less = read_key-shorter l.reader.tokens (Some k) after named in
    let lesser = c.in_ok-member.ensures.shorter in
    let one = members-one (value c.args.depth) (line_members (entries_of l.found)) turns k l.reader.tokens after left (line_view v) (omega (arith, l.invariant.1)) named c.in_ok-member.ensures.ok in (
      turns - 1,
      omega (arith, l.invariant.1),
      omega (arith, l.invariant.2),
      l.invariant.3 ∙ one ∙ ap (λ found. converted (λ ms. of_members ms found) (members (value c.args.depth) (turns - 1) left)) (sym (ap (λ (es : List Named). line_members es) c.in_ok-put.ensures ∙ members-put c.in-Some.name v (entries_of l.found))),
      subst (λ (es : List Named). IsRising es) (sym c.in_ok-put.ensures) (rising_put c.in-Some.name v (entries_of l.found) l.invariant.4),
      narrows_on _ _ _ l.invariant.5 narrows,
      subst (λ (es : List Named). AreMembersPlain last (line_members es)) (sym c.in_ok-put.ensures)
          (members_more last c.in-Some.name v (entries_of l.found) (λ known. c.in-Some.ensures.plain.1 (c.in_ok-member.ensures.plain.0.0 known)) c.in_ok-member.ensures.plain.1 (members_still l.reader.plain last narrows _ l.invariant.6)),
    )
