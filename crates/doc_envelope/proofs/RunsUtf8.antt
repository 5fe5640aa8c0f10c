-- A run that is inserted after an ASCII character does not change whether a text is UTF-8.
use Rattle.proof_prelude.proofs.{◌≡◌, ℕ, ◌+◌, ◌≤◌, ◌<◌, List, [], ◌∷◌, ◌++◌, length, take, drop, get_or, Bool, true, false, ◌&&◌, refl, sym, ap, subst, ◌∙◌, arith, append_assoc, list_all, and_parts, is_some, is_utf8, IsUtf8, IsUtf8-append, IsUtf8-from_is_utf8, is_utf8-from_IsUtf8, IsUtf8-from_ascii, IsAscii, IsCharBoundary-after_ascii, length-append, get_or-append_seam, take-append_seam}
use Rattle.std.proofs.Math.Seq.{drop-append_seam}
use Rattle.std.proofs.lemmas.Str.{IsUtf8-take, IsUtf8-drop}
use Rattle.std.proofs.lemmas.Str.Ascii.{IsAscii-cons, IsAscii-nil}
use Rattle.json.specs.Json.{document}
use Rattle.doc_envelope.specs.{IsRun, MayStream, is_json, is_streamable}
use Rattle.doc_envelope.proofs.Runs.{document_run, parts_of}

low : (x : ℕ) → is_streamable x ≡ true → x < 128
low x h = grind arith

-- a text of UTF-8 is cut after an ASCII character
pub utf8_cut : (p : List ℕ) (b : ℕ) (t : List ℕ) → b < 128 → IsUtf8 (p ++ b ∷ t) → IsUtf8 (p ++ b ∷ []) × IsUtf8 t
utf8_cut p b t h u =
    let all = p ++ b ∷ t in
    let at : get_or all (length p) 0 ≡ b = get_or-append_seam p b t 0 in
    let count = length-append p (b ∷ t) in
    let within : length p < length all = omega (arith, count) in
    let edge = IsCharBoundary-after_ascii all (length p) u within (subst (λ c. c < 128) (sym at) h) in
    let one : length p + 1 ≡ length (p ++ b ∷ []) = (let n = length-append p (b ∷ []) in omega (arith, n)) in
    let same : (p ++ b ∷ []) ++ t ≡ all = append_assoc p (b ∷ []) t in
    let front : take (length p + 1) all ≡ p ++ b ∷ [] = ap (λ n. take n all) one ∙ ap (take (length (p ++ b ∷ []))) (sym same) ∙ take-append_seam (p ++ b ∷ []) t in
    let back : drop (length p + 1) all ≡ t = ap (λ n. drop n all) one ∙ ap (drop (length (p ++ b ∷ []))) (sym same) ∙ drop-append_seam (p ++ b ∷ []) t in
    (subst IsUtf8 front (IsUtf8-take all (length p + 1) u edge), subst IsUtf8 back (IsUtf8-drop all (length p + 1) u edge))

pub utf8_split : (e : List ℕ) (b : ℕ) (p t : List ℕ) → IsRun (b ∷ e) → IsUtf8 ((p ++ b ∷ e) ++ t) → IsUtf8 (p ++ b ∷ e) × IsUtf8 t
utf8_split [] b p t h u =
    utf8_cut p b t (low b (and_parts (is_streamable b) true h).0) (subst IsUtf8 (append_assoc p (b ∷ []) t) u)
utf8_split (c ∷ e) b p t h u =
    let same = append_assoc p (b ∷ []) (c ∷ e) in
    let r = utf8_split e c (p ++ b ∷ []) t (and_parts (is_streamable b) (list_all is_streamable (c ∷ e)) h).1 (subst (λ z. IsUtf8 (z ++ t)) (sym same) u) in
    (subst IsUtf8 same r.0, r.1)

run_ascii : (r : List ℕ) → IsRun r → IsAscii r
run_ascii [] h = IsAscii-nil
run_ascii (x ∷ r) h =
    let parts = and_parts (is_streamable x) (list_all is_streamable r) h in
    IsAscii-cons x r (low x parts.0) (run_ascii r parts.1)

pub run_utf8 : (r : List ℕ) → IsRun r → IsUtf8 r
run_utf8 r h = IsUtf8-from_ascii r (run_ascii r h)

-- what follows a run
run_rest : (r t : List ℕ) → IsRun r → IsUtf8 (r ++ t) → IsUtf8 t
run_rest [] t h u = u
run_rest (x ∷ r) t h u = (utf8_split r x [] t h u).1

pub same_bool : (a b : Bool) → (a ≡ true → b ≡ true) → (b ≡ true → a ≡ true) → a ≡ b
same_bool true b f g = sym (f refl)
same_bool false true f g = g refl
same_bool false false f g = refl

pub same_utf8 : (s t : List ℕ) → (IsUtf8 s → IsUtf8 t) → (IsUtf8 t → IsUtf8 s) → is_utf8 s ≡ is_utf8 t
same_utf8 s t f g =
    same_bool (is_utf8 s) (is_utf8 t) (λ h. is_utf8-from_IsUtf8 t (f (IsUtf8-from_is_utf8 s h))) (λ h. is_utf8-from_IsUtf8 s (g (IsUtf8-from_is_utf8 t h)))

-- after a text that ends with streamable bytes
pub utf8_insert : (p e r t : List ℕ) → IsRun e → 1 ≤ length e → IsRun r → is_utf8 ((p ++ e) ++ (r ++ t)) ≡ is_utf8 ((p ++ e) ++ t)
utf8_insert p [] r t h l k = absurd (omega arith)
utf8_insert p (b ∷ e) r t h l k =
    same_utf8 ((p ++ b ∷ e) ++ (r ++ t)) ((p ++ b ∷ e) ++ t)
    (λ u. let c = utf8_split e b p (r ++ t) h u in IsUtf8-append (p ++ b ∷ e) t c.0 (run_rest r t k c.1))
    (λ u. let c = utf8_split e b p t h u in IsUtf8-append (p ++ b ∷ e) (r ++ t) c.0 (IsUtf8-append r t (run_utf8 r k) c.1))

pub utf8_run : (s r t : List ℕ) → MayStream s → IsRun r → is_utf8 (s ++ (r ++ t)) ≡ is_utf8 (s ++ t)
utf8_run s r t m h =
    let p = parts_of s m in
    let n = p.long in
    ap (λ u. is_utf8 (u ++ (r ++ t))) p.is ∙ utf8_insert p.front p.back r t p.run (omega (arith, n)) h ∙ sym (ap (λ u. is_utf8 (u ++ t)) p.is)

pub json_run : (s r t : List ℕ) → MayStream s → IsRun r → is_json (s ++ (r ++ t)) ≡ is_json (s ++ t)
json_run s r t m h =
    ap (λ b. b && is_some (document (s ++ (r ++ t)))) (utf8_run s r t m h) ∙ ap (λ b. is_utf8 (s ++ t) && b) (document_run s r t m h)
