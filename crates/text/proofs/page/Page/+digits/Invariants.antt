-- The digits left to print fall by one at each call.
use Rattle.text.proofs.page.Page.+digits.Given as goal

abbrev pub decreases-digits : goal.decreases-digits
decreases-digits l = l.most
