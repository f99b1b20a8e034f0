-- What is claimed of a written load. The contract of `read_back()` cites this record, so that no part of it can go unseen.
use Rattle.saved.specs.Saved.{FileIs, RecordsTaken, ReadsBack, EndReadsBack, OneFile, OneFileBack}
use Rattle.saved.specs.Witness.{Met}

pub record Proved : Type 0 where
  pub file : FileIs
  pub records : RecordsTaken
  pub reads : ReadsBack
  pub ending : EndReadsBack
  pub one_file : OneFile
  pub back : OneFileBack
  -- the premises can be met
  pub met : Met
