-- Reading a value as a body, check by check.
use Rattle.proof_prelude.proofs.{◌≡◌, ◌≤◌, ◌∙◌, ℕ, List, [], Option, option_and_then, arith, append-nil, Bool, true, false, cond, Some, None, Ok, Err, refl, sym, ap, subst}
use Rattle.json.specs.Token.{Token}
use Rattle.json.specs.Lex.{tokens}
use Rattle.json.specs.Print.{print}
use Rattle.json.specs.Json as json
use Rattle.json.proofs.Printed.Trees.{value-json_tokens}
use Rattle.serde_json.specs.Data.{Data, depth, null, object, Members, no_members, member}
use Rattle.serde_json.specs.Find.{as_object}
use Rattle.serde_json.specs.Written.{compact_text, has_float, members_have_float, IsInOrder, WritesValue}
use Rattle.serde_json.proofs.Texts.{tokens_from_order, print-outline}
use Rattle.serde_json.specs.Read.{of_json, read, max_depth}
use Rattle.doc_json.specs.{is_special, has_special, plain_members, body_read, IsWritten, IsBody}
use Rattle.doc_json.specs.declared.fault.DocFault.TheVariants as faults

pub is_object : (d : Data) (ms : Members) → as_object d ≡ Some ms → d ≡ object ms
is_object null ms e = cc
is_object _ ms e = cc

pub body_no_object : (d : Data) → as_object d ≡ None → body_read d ≡ Err faults.NotObject
body_no_object d e = unfold body_read in rw e refl

pub body_special : (d : Data) (ms : Members) → as_object d ≡ Some ms → has_special ms ≡ true → body_read d ≡ Err faults.SpecialMember
body_special d ms e special = unfold body_read in rw (e, special) refl

pub body_fraction : (d : Data) (ms : Members) → as_object d ≡ Some ms → has_special ms ≡ false → members_have_float ms ≡ true → body_read d ≡ Err faults.Fraction
body_fraction d ms e plain float = unfold body_read in rw (e, plain, float) refl

pub body_ok : (d : Data) (ms : Members) → as_object d ≡ Some ms → has_special ms ≡ false → members_have_float ms ≡ false → body_read d ≡ Ok (compact_text d)
body_ok d ms e plain exact = unfold body_read in rw (e, plain, exact) (ap (λ x. Ok (compact_text x)) (sym (is_object d ms e)))

-- ---- the plain members have no special one

plain_if : (b : Bool) (name : List ℕ) (d : Data) (ms : Members) → is_special name ≡ b → has_special ms ≡ false → has_special (cond b ms (member name d ms)) ≡ false
plain_if true name d ms is h = h
plain_if false name d ms is h = rw is h

pub plain_members_plain : (ms : Members) → has_special (plain_members ms) ≡ false
plain_members_plain no_members = refl
plain_members_plain (member name d ms) = plain_if (is_special name) name d (plain_members ms) refl (plain_members_plain ms)

-- what the writer guarantees makes a body
pub is_body : (text : List ℕ) (d : Data) (ms : Members) → d ≡ object ms → has_special ms ≡ false → members_have_float ms ≡ false → IsWritten text d → IsBody text
is_body text d ms is plain exact written = record { members = ms; plain = plain; exact = exact; written = subst (IsWritten text) is written }

-- the data that a list of tokens denotes, if all tokens are used
abbrev whole : Option (json.Json × List Token) → Option Data
whole o = option_and_then of_json (option_and_then (λ p. json.if_last p.0 p.1) o)

-- the tokens written for a value are read back as that value
read_back : (d : Data) (ts : List Token) (text : List ℕ) → WritesValue d [] ts → tokens text ≡ ts → depth d ≤ max_depth → read text ≡ Some d
read_back d ts text w same shallow =
    ap whole (ap (json.value max_depth) (same ∙ w.1 ∙ sym (append-nil _)) ∙ value-json_tokens w.0 max_depth [] (omega (arith, w.3))) ∙ w.2

-- a text that was written token by token and reads as these tokens is the text of the value
pub is_written : (d : Data) (ts : List Token) (text : List ℕ) → WritesValue d [] ts → text ≡ print ts → tokens text ≡ ts → has_float d ≡ false → IsWritten text d
is_written d ts text w printed same exact =
    let order : IsInOrder text d = (w.0, same ∙ w.1, w.4) in record {
      compact = printed ∙ ap print (sym same ∙ tokens_from_order text d order exact) ∙ print-outline d;
      order = order;
      reads_back = read_back d ts text w same;
    }
