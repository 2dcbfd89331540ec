use Rattle.mi_dict.proofs.order.+push_lists.Given as goal

abbrev pub decreases-push_lists : goal.decreases-push_lists
decreases-push_lists g l = l.left
