use Rattle.gnu_texts.proofs.BackLemmas.{comes-back}
use Rattle.gnu_texts.proofs.BytesLemmas.{keeps-bytes}
use Rattle.gnu_texts.proofs.KeptLemmas.{adds-blanks, parts-brackets, stays}
use Rattle.gnu_texts.proofs.laws.spelled_texts_keep_bytes.Goals as goal

pub returns-clause-stays : goal.returns-clause-stays
returns-clause-stays c = stays

pub returns-clause-blanks : goal.returns-clause-blanks
returns-clause-blanks c = adds-blanks

pub returns-clause-parted : goal.returns-clause-parted
returns-clause-parted c = parts-brackets

pub returns-clause-back : goal.returns-clause-back
returns-clause-back c = comes-back

pub returns-clause-bytes : goal.returns-clause-bytes
returns-clause-bytes c = keeps-bytes
