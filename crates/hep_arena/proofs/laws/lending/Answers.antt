use Rattle.hep_arena.proofs.Loans.{length-with_run, range-get, with_run-inside, with_run-other, with_run-set}
use Rattle.hep_arena.proofs.laws.lending.Goals as goal

pub returns : goal.returns
returns c = record {
  cells = λ contents loan at n. length-with_run contents at n loan;
  others = λ contents loan at n k le o. with_run-other contents at n loan k le o;
  lent = λ contents loan at n i le long less. with_run-inside contents at n loan i le long less;
  read = range-get;
  write = with_run-set;
}
