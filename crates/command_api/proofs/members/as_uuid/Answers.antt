-- The number is that of the bytes that the text parses to.
use Rattle.proof_prelude.proofs.{◌≡◌, true, false, Option, Some, None, refl, ap, ◌∙◌, false≢true, option_map, option_and_then, from_be_bytes, w128}
use Rattle.command_api.specs.{uuid_in}
use Rattle.command_api.proofs.members.as_uuid.Goals as goal

pub returns-in-Ok : goal.returns-in-Ok
unfolding uuid_in
returns-in-Ok c =
    ap Some c.as_u128.ensures ∙ ap (option_map (λ bytes. from_be_bytes w128 bytes)) c.in-Ok.ensures.bytes
    ∙ ap (option_and_then uuid_in) c.in-Some.ensures

nothing : {A : Type 0} (o : Option A) → ((x : A) × (o ≡ Some x) → false ≡ true) → None ≡ o
nothing None h = refl
nothing (Some x) h = absurd (false≢true (h (x, refl)))

pub returns-in-Err : goal.returns-in-Err
unfolding uuid_in
returns-in-Err c =
    ap (option_map (λ bytes. from_be_bytes w128 bytes)) (nothing _ c.in-Err.ensures.ok.1)
    ∙ ap (option_and_then uuid_in) c.in-Some.ensures
