-- Defines the revision id that the stored form of a compact revision represents. No public contract uses the
-- definitions of this file.
use Rattle.rev_core.specs.Rev.{RevId}
use Rattle.rev_core.specs.ShortSig.{text_in}
use Rattle.rev_core.specs.declared.kept_rev.Form.{Form}
use Rattle.rev_core.specs.declared.kept_rev.Form.TheVariants.{Short, Long}

-- The revision id that a stored form represents.
abbrev pub rev_of : Form → RevId
rev_of (Short len generation front back) = record { generation = generation; sig = text_in len front back }
rev_of (Long block) = block.value
