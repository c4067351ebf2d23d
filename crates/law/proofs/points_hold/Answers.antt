use Rattle.law.specs.Law.{RefusedExactly, LabelTells, ReadsBack, ChangeCounted}
use Rattle.law.proofs.Points as points
use Rattle.law.proofs.points_hold.Goals as goal

pub returns : goal.returns
returns c = record {
  refused_exactly = points.point (λ M N. RefusedExactly M) (λ M N h s e f. f.refused_exactly);
  label_tells = points.point LabelTells (λ M N h s e f. f.label_tells);
  reads_back = points.point ReadsBack (λ M N h s e f. f.reads_back);
  change_counted = points.point ChangeCounted (λ M N h s e f. f.change_counted);
  hosts_agree = points.hosts_agree;
  handed_over = points.handed_over;
}
