-- The lines from the start of the one at place n on. Assumes nothing.
use Rattle.std.proofs.Common.{◌∙◌, ap, drop}
use Rattle.reader.specs.Lines.{lines_of}
use Rattle.reader.proofs.Laws.Lines.{lines_from_lem, rest_all}
use Rattle.reader.proofs.lines.Lines.starting_at.Goals as goal

pub returns : goal.returns
returns c =
    ap lines_of (rest_all c.args.text.now c.line_start.result)
    ∙ ap (λ k. lines_of (drop k c.args.text.now)) c.line_start.ensures.place
    ∙ lines_from_lem c.args.text.now c.args.n
