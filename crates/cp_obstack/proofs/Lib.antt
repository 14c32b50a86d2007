mod CutLaws
