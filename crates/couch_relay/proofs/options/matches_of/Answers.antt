use Rattle.proof_prelude.proofs.{ap, refl, subst, ◌≡◌, ◌∙◌, true, map, string_bytes}
use Rattle.clap.specs.Words.{HasKind, fault_of, is_simple_and_free}
use Rattle.clap.proofs.OnLiterals.{clap_on_literals}
use Rattle.couch_relay.specs.Options.{command_line}
use Rattle.couch_relay.proofs.options.matches_of.Goals as goal

command_line_free : is_simple_and_free command_line ≡ true
unfolding clap_on_literals
command_line_free = refl

pub find-requires : goal.find-requires
find-requires c = record { free = ap is_simple_and_free c.in_ok-command.ensures ∙ command_line_free }

pub returns-in-Err-clause-err : goal.returns-in-Err-clause-err
returns-in-Err-clause-err c =
    subst (λ a. HasKind (fault_of a (map string_bytes c.args.words.now)) c.in-Err.error) c.in_ok-command.ensures c.in-Err.ensures.err
