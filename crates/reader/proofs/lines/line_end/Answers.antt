-- The line is as long as there are characters before the first line feed. Assumes nothing.
use Rattle.std.proofs.Common.{◌≡◌, ◌-◌, length, take, drop, ap, arith, rules}
use Rattle.std.proofs.lemmas.Iterator.{YieldsList-from_slice, IsFirst-from_position}
use borrow.Author.Tests.{tests}
use Rattle.reader.specs.Lines.{line_feed, line_length}
use Rattle.reader.proofs.Laws.Lines.{length_first, rest_all}
use Rattle.reader.proofs.lines.line_end.Goals as goal

pub returns-clause-place : goal.returns-clause-place
returns-clause-place c =
    let rest = take (length c.args.text.now - c.args.start) (drop c.args.start c.args.text.now) in
    let first =
    IsFirst-from_position _ _ c.position-length.result (λ x. x ≡ line_feed) (λ x. x ≡ line_feed → ⊥) c.position-length.ensures.ran
    (YieldsList-from_slice rest c.iter.ensures.rest) (λ x q k. search (rules, tests)) (λ x q k. search (rules, tests)) in
    omega (arith, c.unwrap_or.ensures, length_first rest c.position-length.result first, ap line_length (rest_all c.args.text.now c.args.start))
