-- Document 01's table T has the anomalies that are printed for it: each test computes.
-- Assumes nothing.
use mathlib.Core.Path.{refl}
use Rattle.base.specs.Lists.{among, same, some}
use Rattle.relations.specs.Entities.{upward, ancestors, root_of, at_or_above}
use Rattle.relations.specs.Technologies.{layer_of, dominates}
use Rattle.relations.specs.Coefficients.{at_least}
use Rattle.relations.specs.Selectors.{contains, overlaps, inhabited, meet, exchange, same_selector}
use Rattle.relations.specs.Groups.{same_group}
use Rattle.search.specs.Search.{search, from, tries}
use Rattle.verdicts.specs.Verdicts.{verdict_after}
use Rattle.covers.specs.Covers.{covers, cover_of}
use Rattle.kinds.specs.Tests.{in_order, twice, lacks, non_enforceable, rides, superfluous, filters, filtered, layer_two, answers, asymmetric, cyclic, goes_on, chains, alternative_path, encloses, same_traffic}
use Rattle.kinds.specs.Kinds.{anomaly}
use Rattle.kinds.specs.Entries.{gather, entries}
use Rattle.kinds.specs.Examples.{Printed}

pub printed : Printed
unfolding among same upward ancestors root_of at_or_above layer_of dominates at_least contains overlaps inhabited meet exchange same_selector same_group search from tries covers cover_of verdict_after some in_order twice lacks non_enforceable rides superfluous filters filtered layer_two answers asymmetric cyclic goes_on chains alternative_path encloses same_traffic anomaly gather entries
printed = refl
