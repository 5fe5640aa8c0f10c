use Rattle.doc_envelope.proofs.{no_utf8, utf8}
use Rattle.doc_envelope.proofs.json_scratch.JsonScratch.is_json.Goals as goal

pub returns-in_default : goal.returns-in_default
returns-in_default c = no_utf8 c.args.text.now c.in_default.ensures

pub returns : goal.returns
returns c =
    let k = c.in-Ok.ensures in
    utf8 c.args.text.now c.in-Ok.string.now c.is_valid.result k.0 k.1 c.is_valid.ensures.ok
