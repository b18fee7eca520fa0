-- A step takes the first bit, by the law of it.
use Rattle.std.proofs.Common.{◌<◌, ◌^◌, arith}
use Rattle.covers.proofs.Laws.Sets.{none_left, first_of}
use Rattle.covers.proofs.set.BitsIterator.next.Goals as goal

pub returns-then-rest-eq0-clause-steps : goal.returns-then-rest-eq0-clause-steps
returns-then-rest-eq0-clause-steps c = λ k. none_left _ k c.if-rest-eq0.true

pub returns-clause-steps : goal.returns-clause-steps
returns-clause-steps c = let f : c.args.self.now.0 < 2 ^ 64 = omega arith in first_of _ f c.if-rest-eq0.false
