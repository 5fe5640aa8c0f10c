use Rattle.proof_prelude.proofs.{IsUtf8-from_ascii}
use Rattle.json_values.proofs.utf8.text_of.Goals as goal

pub from_utf8_unchecked-requires : goal.from_utf8_unchecked-requires
from_utf8_unchecked-requires c = IsUtf8-from_ascii c.args.bytes.now (c.is_ascii.ensures c.if-is_ascii.true)
