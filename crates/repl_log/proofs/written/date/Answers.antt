use Rattle.proof_prelude.proofs.{◌≡◌, sym, ap, ◌∙◌}
use Rattle.httpdate.specs.Date.{date_text}
use Rattle.repl_log.specs.{time_text, time_text-date}
use Rattle.repl_log.proofs.written.date.Goals as goal

pub returns : goal.returns
returns c =
    let shown : date_text c.in-Ok.date ≡ time_text c.args.moment =
    sym (time_text-date c.in-Ok.date) ∙ ap time_text (c.in-Ok.ensures.value ∙ c.seconds.ensures.value) in
    rw (← shown) c.fmt_http_date.ensures
