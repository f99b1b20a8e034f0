-- Both contracts are one equation over one list; of a list in order, so is that of `best`.
use mathlib.Core.Path.{sym, ap, ◌∙◌}
use mathlib.Core.List.{List}
use Rattle.profile.specs.declared.Journey.{Journey}
use Rattle.best.specs.Best.{best_of_of}
use Rattle.best.proofs.QueryLaws.{best-of-all}
use Rattle.lent.specs.Agrees.{OverAgrees, LoadAgrees, LentAgrees}

pub over-agrees : OverAgrees
over-agrees js lent count h s r r' e p q = p ∙ sym (q ∙ ap (λ (ks : List Journey). best_of_of ks h s) e)

pub load-agrees : LoadAgrees
load-agrees l lent s r r' searched o e p q = p ∙ best-of-all l searched o s
    ∙ sym (q ∙ ap (λ (ks : List Journey). best_of_of ks l.horizon s) e)

pub lent-agrees : LentAgrees
lent-agrees = (over-agrees, load-agrees)
