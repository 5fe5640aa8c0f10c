use Rattle.proof_prelude.proofs.{sym, subst}
use Rattle.output_parser.specs.{NoFinding, NoLog, NoRow}
use Rattle.output_parser.specs.Lines.{TellsMore}
use Rattle.output_parser.specs.declared.told.Finding.TheVariants as findings
use Rattle.output_parser.specs.declared.told.Table.TheVariants as tables
use Rattle.output_parser.proofs.{all_findings, all_rows, none_at, other_told}
use Rattle.output_parser.proofs.lines.read_more.Goals as goal

pub returns-in-None : goal.returns-in-None
returns-in-None c =
    let line = c.args.line.now in
    subst (TellsMore line) (sym c.other_of.ensures) (other_told line (
      all_findings line
          (none_at c.in_ok-found.field-0 (NoFinding line findings.Missing) c.in_default.is c.in_ok-found.ensures.none)
          (none_at c.in_ok-found-2.field-0 (NoFinding line findings.Contradicts) c.in_default-2.is c.in_ok-found-2.ensures.none)
          (none_at c.in_ok-found-3.field-0 (NoFinding line findings.Differs) c.in_default-3.is c.in_ok-found-3.ensures.none),
      all_rows line
          (none_at c.in_ok-row.field-0 (NoRow line tables.Compared) c.in_default-4.is c.in_ok-row.ensures.none)
          (none_at c.in_ok-row-2.field-0 (NoRow line tables.Info) c.in_default-5.is c.in_ok-row-2.ensures.none)
          (none_at c.in_ok-row-3.field-0 (NoRow line tables.Session) c.in_default-6.is c.in_ok-row-3.ensures.none),
      none_at c.in_ok-log.field-0 (NoLog line) c.in-None.is c.in_ok-log.ensures.none,
    ))
